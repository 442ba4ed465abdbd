pub mod Brackets
pub mod Chains
pub mod Objects
pub mod Selections
