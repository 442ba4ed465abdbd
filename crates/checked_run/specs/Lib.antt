pub mod Coarrays
pub mod Doing
pub mod Reports
pub mod Runnable
