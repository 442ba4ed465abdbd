pub mod Around
pub mod Chains
pub mod Items
pub mod Lists
pub mod Names
pub mod Objects
pub mod Selectors
