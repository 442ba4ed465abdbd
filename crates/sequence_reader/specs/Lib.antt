pub mod Views
pub mod Answers
pub mod Halts
pub mod Statements
