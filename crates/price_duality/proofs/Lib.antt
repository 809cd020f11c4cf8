pub mod Products
pub mod Averages
pub mod Roundings
pub mod Verdict
pub mod Limits
pub mod MostGain
