pub mod Bytes
pub mod Forms
pub mod Scans
pub mod Cuts
pub mod Tokens
pub mod Words
