pub mod Groups
pub mod Families
pub mod Views
