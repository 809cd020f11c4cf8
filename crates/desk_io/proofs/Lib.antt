pub mod Rests
pub mod FirstPassing
pub mod Files
pub mod Openings
pub mod Sinks
