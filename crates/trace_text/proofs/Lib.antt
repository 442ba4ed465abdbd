pub mod Turns
pub mod Tables
pub mod Lines
pub mod Tries
