pub mod Joins
pub mod Given
pub mod Reached
pub mod Renames
pub mod Tables
pub mod Kept
