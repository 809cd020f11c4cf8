pub mod UnitRows
pub mod PoolRows
pub mod FilledRows
pub mod LentRows
pub mod Lifted
