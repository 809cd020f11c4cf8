pub mod Amounts
pub mod Abandonments
pub mod Gains
pub mod BestAnswers
pub mod Laws
