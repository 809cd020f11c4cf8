pub mod Ways
pub mod Bases
pub mod PlainRuns
pub mod Laws
