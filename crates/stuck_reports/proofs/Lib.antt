pub mod Rising
pub mod Ended
pub mod Stuck
