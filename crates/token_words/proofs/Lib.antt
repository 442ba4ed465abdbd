pub mod Fitting
pub mod Ends
pub mod Values
pub mod Sources
