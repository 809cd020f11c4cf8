mod Matches
pub mod Through
pub mod Boards
