pub mod Stuck
pub mod Told
pub mod Counts
pub mod Holders
pub mod Awaited
pub mod ToldChains
pub mod Links
pub mod Reports
