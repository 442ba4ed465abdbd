pub mod Held
pub mod Runs
pub mod SameEnd
pub mod TracesOn
