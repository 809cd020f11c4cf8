pub mod Lines
pub mod Fields
pub mod Forms
pub mod Standing
pub mod Feed
pub mod Answers
pub mod Laws
