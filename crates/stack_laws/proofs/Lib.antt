pub mod Standing
pub mod Numbers
pub mod Places
pub mod Arrays
pub mod Images
pub mod Asks
pub mod Acts
