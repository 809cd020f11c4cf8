pub mod Books
pub mod Views
pub mod Kept
pub mod Answers
pub mod Parts
pub mod Shared
