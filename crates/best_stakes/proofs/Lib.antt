pub mod BestFacts
