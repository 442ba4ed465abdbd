pub mod Written
pub mod References
pub mod Renamed
