pub mod Ends
pub mod Finals
pub mod Printed
pub mod Reports
pub mod Waits
