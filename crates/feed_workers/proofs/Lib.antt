pub mod Lines
pub mod Gathered
pub mod Rounds
pub mod Going
