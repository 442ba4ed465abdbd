pub mod Visible
pub mod UnitRules
pub mod Flat
pub mod Acceptance
pub mod Laws
