pub mod Images
pub mod Parts
pub mod Acts
pub mod Allocations
pub mod References
pub mod Levels
pub mod Quieting
pub mod Walks
