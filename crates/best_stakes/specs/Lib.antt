pub mod BestFound
