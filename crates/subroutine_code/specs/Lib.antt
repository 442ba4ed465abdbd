pub mod Arguments
pub mod Atomics
pub mod Collecting
