mod Sizing
mod Values
mod Arrays
mod Teams
mod Asks
pub mod Acts
