pub mod Kinds
pub mod Suiting
