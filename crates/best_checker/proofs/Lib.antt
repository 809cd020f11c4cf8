pub mod LowestTerms
pub mod StandInFacts
pub mod Rightness
pub mod OneBestAnswer
