pub mod Entries
pub mod Sheets
pub mod Pins
pub mod Legal
pub mod WorkedHistories
