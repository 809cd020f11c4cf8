pub mod Numbers
pub mod Divisors
pub mod Primitives
pub mod Combinations
pub mod Contents
