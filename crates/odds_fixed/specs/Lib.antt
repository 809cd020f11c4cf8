pub mod Faults
pub mod Rooms
pub mod Laws
