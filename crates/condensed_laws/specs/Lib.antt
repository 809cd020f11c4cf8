pub mod Wholes
pub mod Heads
pub mod Tableaus
pub mod Laws
