pub mod Values
pub mod Copies
pub mod Kept
pub mod Cells
pub mod Seen
