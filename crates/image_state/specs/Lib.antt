pub mod Kept
pub mod Acting
pub mod Arrays
pub mod Places
pub mod Texts
pub mod Coarrays
