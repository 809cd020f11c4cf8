pub mod Laws
pub mod SpentRuns
