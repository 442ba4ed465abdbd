pub mod Fronts
pub mod Wholes
pub mod Places
pub mod Moves
pub mod Stages
pub mod Units
pub mod Longer
pub mod Follows
