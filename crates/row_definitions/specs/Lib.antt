pub mod Rows
pub mod Combination
pub mod Laws
