pub mod Few
pub mod Limits
pub mod Bounds
pub mod Recited
pub mod Fronts
pub mod FullyLawful
pub mod Coming
