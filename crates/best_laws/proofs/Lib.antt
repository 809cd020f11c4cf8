pub mod LevelBelowOne
pub mod LeastGains
pub mod Squeeze
pub mod RightBest
