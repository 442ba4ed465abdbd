pub mod Noting
pub mod Forming
