pub mod Dues
pub mod Failures
pub mod Reading
pub mod Sources
pub mod Tasks
pub mod RunTexts
pub mod Traces
pub mod Writing
