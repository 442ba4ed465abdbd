pub mod Beginnings
pub mod Traces
