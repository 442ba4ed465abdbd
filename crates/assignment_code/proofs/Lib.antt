pub mod Assigning
pub mod Numbers
