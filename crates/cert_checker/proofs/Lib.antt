pub mod Searches
pub mod Prefixes
pub mod Measures
pub mod Rightness
pub mod OneAnswer
