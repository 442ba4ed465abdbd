pub mod Extremes
pub mod Forms
pub mod Three
