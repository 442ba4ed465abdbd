pub mod Ends
pub mod Intervals
