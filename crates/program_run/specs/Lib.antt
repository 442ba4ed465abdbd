pub mod Finals
pub mod Machines
pub mod Reports
