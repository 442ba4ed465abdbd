pub mod Arithmetic
pub mod Few
pub mod Outside
pub mod Spans
