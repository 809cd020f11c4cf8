pub mod BitLengths
pub mod Columns
pub mod Inverses
pub mod Quotients
pub mod Scan
pub mod ShortProducts
pub mod Written
pub mod WrittenCombination
