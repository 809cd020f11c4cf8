pub mod Combinable
pub mod Condensed
pub mod Kept
pub mod Lent
pub mod Rows
