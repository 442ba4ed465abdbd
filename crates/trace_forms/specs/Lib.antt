pub mod Names
pub mod Replies
pub mod Ranges
pub mod Shown
pub mod Files
