pub mod Cells
pub mod Waiting
pub mod Trying
pub mod Locking
