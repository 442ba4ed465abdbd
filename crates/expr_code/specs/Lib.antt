pub mod Calls
pub mod Drafts
pub mod Environments
pub mod Functions
pub mod Pieces
pub mod Procedures
