pub mod Totals
pub mod Lists
pub mod Keeps
pub mod Moves
