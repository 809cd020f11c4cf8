pub mod Readers
pub mod Numbers
pub mod Findings
pub mod Whole
pub mod Loops
pub mod Lengths
