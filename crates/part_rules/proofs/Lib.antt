pub mod Chains
pub mod Gathering
pub mod Lists
pub mod Nothing
