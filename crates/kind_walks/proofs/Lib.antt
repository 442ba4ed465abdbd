pub mod Parts
pub mod Walks
pub mod Numbers
pub mod Effects
pub mod Frames
pub mod StackActs
