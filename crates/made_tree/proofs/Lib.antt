pub mod Scopes
pub mod Limits
pub mod Judged
pub mod Whole
