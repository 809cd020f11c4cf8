pub mod Duality
pub mod MostGain
