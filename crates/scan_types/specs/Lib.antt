pub mod Ranges
pub mod Names
pub mod NameView
pub mod Selections
pub mod Offers
pub mod Sheets
pub mod Laws
