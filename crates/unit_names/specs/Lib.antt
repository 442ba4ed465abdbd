pub mod Accessible
pub mod Found
pub mod Levels
