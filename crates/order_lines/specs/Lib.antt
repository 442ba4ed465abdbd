pub mod Bars
pub mod Lines
