pub mod Heads
pub mod Counting
pub mod Around
pub mod Blocks
pub mod Programs
