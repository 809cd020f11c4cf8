pub mod Ends
pub mod Sorts
pub mod Texts
pub mod GoodFeeds
pub mod Pasts
