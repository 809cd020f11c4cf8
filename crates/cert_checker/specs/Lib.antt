pub mod Places
pub mod Shapes
pub mod Losses
pub mod Gains
pub mod Answers
pub mod Arbitrage
pub mod Laws
