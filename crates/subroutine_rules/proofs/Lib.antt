pub mod Calls
pub mod Found
pub mod Takes
pub mod Variables
