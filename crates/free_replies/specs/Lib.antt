pub mod Subsets
pub mod Law
