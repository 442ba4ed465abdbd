pub mod Asking
pub mod Operands
pub mod Heard
