pub mod PlainBytes
pub mod Feeds
pub mod Joined
pub mod Unbroken
