pub mod Desk
pub mod Process
