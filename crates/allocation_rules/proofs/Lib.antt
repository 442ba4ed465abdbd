pub mod Allocations
pub mod Shapes
