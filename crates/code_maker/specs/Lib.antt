pub mod Blocks
pub mod Loops
pub mod Programs
pub mod Sizes
