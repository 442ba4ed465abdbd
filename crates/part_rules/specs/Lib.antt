pub mod Brackets
pub mod Designators
pub mod Items
pub mod Views
