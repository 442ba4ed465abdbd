pub mod Closed
pub mod Changes
pub mod Kept
pub mod Answered
