pub mod Choosable
pub mod Ends
