mod Worked
pub mod Pieces
pub mod Walk
pub mod Texts
pub mod Prefixes
