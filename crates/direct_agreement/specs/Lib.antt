pub mod Agreeing
pub mod Stacked
