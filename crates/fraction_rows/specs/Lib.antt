pub mod BitLengths
pub mod Combinable
pub mod Divisors
pub mod Exact
