pub mod Blind
pub mod BlindSteps
pub mod BlindTrees
pub mod BlindStatements
