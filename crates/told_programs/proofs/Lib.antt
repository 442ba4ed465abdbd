pub mod Closed
pub mod Quiet
pub mod Statements
pub mod ToldNames
pub mod ProgramAllocates
pub mod Programs
