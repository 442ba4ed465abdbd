pub mod Lists
pub mod Going
pub mod Shares
pub mod Sums
pub mod Closing
pub mod Leaving
pub mod Whole
