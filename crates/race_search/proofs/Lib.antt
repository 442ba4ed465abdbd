pub mod Missed
pub mod Least
pub mod Clocked
pub mod Scan
pub mod Whole
pub mod Lawfuls
pub mod JoinedClocks
pub mod KeptFailures
