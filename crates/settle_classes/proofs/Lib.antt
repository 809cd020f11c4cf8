pub mod Kept
pub mod SameBets
