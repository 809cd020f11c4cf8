pub mod Stands
pub mod Takes
pub mod Accepts
