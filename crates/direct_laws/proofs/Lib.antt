pub mod Subscripts
pub mod Bounds
pub mod Values
pub mod Refused
