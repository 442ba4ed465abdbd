pub mod Following
pub mod Blocks
pub mod Rests
pub mod Laws
