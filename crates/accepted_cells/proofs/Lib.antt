pub mod Held
pub mod Actions
pub mod Statements
pub mod Declared
pub mod Names
pub mod Programs
pub mod OwnCells
