pub mod Simple
pub mod Texts
