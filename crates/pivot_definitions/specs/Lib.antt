pub mod Programs
pub mod Tableaus
pub mod Runs
pub mod Duality
pub mod Feasible
pub mod Laws
