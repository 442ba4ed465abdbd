pub mod Sums
pub mod Rounds
pub mod Counts
