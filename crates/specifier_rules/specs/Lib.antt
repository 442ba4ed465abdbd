pub mod Clashes
pub mod Meanings
pub mod Values
pub mod Variables
pub mod Views
