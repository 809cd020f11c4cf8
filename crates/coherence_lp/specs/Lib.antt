pub mod Comparisons
pub mod ProgramTables
pub mod Asked
pub mod Starts
pub mod Ends
pub mod Faults
pub mod Ratios
