pub mod Rounds
pub mod Sizes
pub mod Allocations
pub mod AllocatingActs
pub mod AllocatingWalks
