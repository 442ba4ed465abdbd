pub mod Fetch
pub mod Missing
pub mod Steps
pub mod Sizes
pub mod Walking
pub mod Bare
pub mod Hurry
