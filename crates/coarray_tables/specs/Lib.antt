pub mod Owns
pub mod Images
pub mod Sections
pub mod Asks
pub mod Start
pub mod Steps
pub mod Fits
