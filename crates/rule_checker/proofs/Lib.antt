pub mod Firsts
pub mod Typing
pub mod Units
pub mod Whole
