pub mod Entries
pub mod Runs
pub mod Merging
pub mod Machines
pub mod Simulations
pub mod Equivalence
