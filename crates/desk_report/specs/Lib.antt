pub mod Marks
pub mod Judged
pub mod Histories
