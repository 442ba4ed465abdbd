pub mod Leaving
pub mod Teams
