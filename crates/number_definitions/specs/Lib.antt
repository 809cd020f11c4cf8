pub mod Values
pub mod Readings
pub mod Spellings
pub mod Printed
