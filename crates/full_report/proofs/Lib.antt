pub mod Declared
pub mod Hearing
