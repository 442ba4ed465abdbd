pub mod Refusals
pub mod Statements
