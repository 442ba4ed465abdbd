pub mod Places
pub mod Cut
pub mod Seen
pub mod Lines
pub mod Found
pub mod Decimals
pub mod Shifted
