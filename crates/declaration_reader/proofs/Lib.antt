pub mod Declared
pub mod Explicit
