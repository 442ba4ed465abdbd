pub mod Atoms
pub mod Parts
pub mod Variables
pub mod Views
