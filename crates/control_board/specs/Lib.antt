pub mod Values
pub mod Boards
