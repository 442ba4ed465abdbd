pub mod Finals
pub mod Listings
