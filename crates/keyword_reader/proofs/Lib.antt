pub mod Keyed
pub mod Shaped
pub mod Objects
