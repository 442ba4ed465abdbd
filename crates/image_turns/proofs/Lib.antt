pub mod Linking
pub mod Staying
pub mod Waiting
pub mod Telling
