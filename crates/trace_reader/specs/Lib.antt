pub mod Kinds
pub mod Checks
pub mod Reading
pub mod Tables
pub mod Files
