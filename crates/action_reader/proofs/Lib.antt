pub mod Keys
pub mod Enclosed
pub mod Turns
pub mod Specifiers
pub mod Acts
pub mod Modes
pub mod Runs
