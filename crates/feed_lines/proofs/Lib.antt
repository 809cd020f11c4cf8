pub mod Splits
pub mod Takings
pub mod Rows
pub mod Lines
pub mod Answering
pub mod Between
