pub mod Numbers
pub mod Program
pub mod Commands
pub mod WellFormed
pub mod Laws
pub mod WorkedLines
