pub mod Generated
pub mod Standing
