pub mod Least
pub mod Ratios
pub mod Steps
pub mod EndsOnce
pub mod FewPivots
