pub mod Offsets
pub mod Bounds
pub mod Sections
pub mod Images
