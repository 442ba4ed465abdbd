pub mod Clashes
pub mod Elements
pub mod Forms
pub mod Joined
pub mod NameTurns
pub mod Puts
pub mod Slots
pub mod Words
