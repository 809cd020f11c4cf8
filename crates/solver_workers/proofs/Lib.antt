pub mod Picking
pub mod Holding
pub mod Prefixes
pub mod Working
