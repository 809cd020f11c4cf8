pub mod Splits
pub mod Numbers
pub mod GoalParts
pub mod Made
pub mod Numerals
pub mod OddsSpelling
pub mod LineSpelling
pub mod NumberSpelling
