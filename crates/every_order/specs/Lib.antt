pub mod Decided
pub mod EveryOrder
pub mod Lemmas
pub mod Likes
pub mod Delays
pub mod Following
