pub mod Reading
pub mod Typed
