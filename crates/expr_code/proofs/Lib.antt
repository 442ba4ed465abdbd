pub mod Calls
pub mod Lines
pub mod Pieces
pub mod Forms
pub mod Functions
