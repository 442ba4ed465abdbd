pub mod Walking
pub mod Cells
pub mod Cases
pub mod Loops
