pub mod Actions
pub mod Statements
pub mod Names
pub mod Programs
pub mod Teams
pub mod Fitting
