pub mod Cases
pub mod Constructs
pub mod Laws
pub mod Pairs
pub mod Parts
pub mod Seen
pub mod Sequences
