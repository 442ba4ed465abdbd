pub mod Beginnings
pub mod Views
pub mod Pieces
