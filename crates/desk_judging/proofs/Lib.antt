pub mod Waiting
pub mod Steps
pub mod Prefixes
pub mod FirstQuote
pub mod HeldPins
