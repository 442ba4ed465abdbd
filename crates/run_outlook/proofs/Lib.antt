pub mod Bits
pub mod Bytes
pub mod Copies
pub mod Counting
pub mod Files
pub mod Slices
