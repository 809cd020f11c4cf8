pub mod RunFacts
pub mod TurnFacts
pub mod ScaleFacts
pub mod CoarseFacts
