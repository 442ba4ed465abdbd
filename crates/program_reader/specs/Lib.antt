pub mod Sequence
pub mod Nesting
pub mod Laws
pub mod Unfinished
