pub mod Fitting
pub mod Entries
