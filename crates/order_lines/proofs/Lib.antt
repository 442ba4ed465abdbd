pub mod Exact
pub mod Pieces
