pub mod OneReading
pub mod OneFinding
pub mod OneCoarseVerdict
