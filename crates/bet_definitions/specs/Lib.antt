pub mod Tables
pub mod Bets
pub mod Laws
