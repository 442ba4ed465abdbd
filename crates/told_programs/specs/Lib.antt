pub mod First
pub mod Allowed
