pub mod Wholes
pub mod Heads
pub mod Pivots
pub mod PivotRows
pub mod Tableaus
pub mod Sound
pub mod Shown
pub mod Built
