pub mod Bindings
pub mod Pairs
pub mod Views
