pub mod Stops
pub mod Seen
pub mod Words
pub mod Report
pub mod Lines
pub mod Order
pub mod Wrong
pub mod Laws
