pub mod Chains
pub mod Extremes
pub mod Inquiries
pub mod Items
pub mod Sections
pub mod Selections
pub mod Sizes
pub mod Views
