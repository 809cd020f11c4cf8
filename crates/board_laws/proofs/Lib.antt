pub mod Pins
pub mod Feeds
