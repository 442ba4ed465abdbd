pub mod Blocks
pub mod Constructs
pub mod OpenLoops
pub mod Programs
pub mod Sizes
pub mod Texts
pub mod Refused
