pub mod Dues
pub mod Keeping
pub mod Ordered
pub mod Hearing
pub mod Runs
