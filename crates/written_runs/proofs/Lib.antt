pub mod Clean
pub mod Pieces
pub mod Lines
pub mod Reports
