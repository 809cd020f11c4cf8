pub mod DecidedLemmas
pub mod GainLemmas
