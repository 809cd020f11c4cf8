pub mod Laws
pub mod Boards
