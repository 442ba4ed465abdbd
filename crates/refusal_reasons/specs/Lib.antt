pub mod Reasons
pub mod Statements
pub mod Laws
