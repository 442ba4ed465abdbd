pub mod Sources
pub mod Refusals
pub mod Laws
