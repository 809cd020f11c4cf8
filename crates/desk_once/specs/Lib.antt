pub mod Bodies
pub mod Counts
pub mod Headless
pub mod Outcomes
pub mod Reports
