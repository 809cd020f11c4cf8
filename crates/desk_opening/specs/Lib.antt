pub mod Openings
pub mod Headers
pub mod Twins
