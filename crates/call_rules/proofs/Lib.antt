pub mod Bindings
pub mod Objects
pub mod Pairs
pub mod Taking
pub mod Values
