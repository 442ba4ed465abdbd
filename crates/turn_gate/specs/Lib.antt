pub mod Lists
pub mod Gates
pub mod Steps
pub mod Turns
pub mod Known
pub mod Passes
pub mod Closings
