pub mod Quiet
pub mod Silence
pub mod Arrivals
pub mod Joining
pub mod Steps
