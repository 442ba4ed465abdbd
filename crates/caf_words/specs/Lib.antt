pub mod Readings
pub mod Usages
pub mod Words
