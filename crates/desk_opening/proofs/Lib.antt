pub mod Opened
pub mod FirstSteps
pub mod HeaderReads
pub mod BegunFeeds
pub mod TwinEnds
