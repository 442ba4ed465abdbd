pub mod Asked
pub mod Bounds
pub mod Entities
pub mod Initials
pub mod Shapes
