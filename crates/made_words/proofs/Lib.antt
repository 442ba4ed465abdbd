pub mod Lines
pub mod Written
pub mod Moved
pub mod Parts
pub mod Closing
pub mod Source
pub mod Whole
