pub mod Noted
pub mod Typing
pub mod Units
pub mod Whole
