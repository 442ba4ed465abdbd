pub mod Cells
pub mod Coplaces
pub mod Distances
pub mod Places
pub mod Sections
