pub mod Conversions
pub mod Defining
pub mod Writing
pub mod Coarrays
pub mod Assignments
pub mod Refused
