pub mod Keeps
pub mod Copied
pub mod Changes
pub mod Needed
pub mod Offers
pub mod Views
