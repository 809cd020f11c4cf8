mod HighScores
pub mod Table
pub mod Cover
pub mod Sums
pub mod Distinct
pub mod Alike
pub mod AlikeSums
pub mod FiveGains
pub mod SameBets
pub mod RaisedOdds
pub mod CanLose
pub mod Roundings
