pub mod Owners
pub mod Reading
