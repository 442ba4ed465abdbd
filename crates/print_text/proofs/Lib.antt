pub mod Portions
pub mod Reading
pub mod Literals
pub mod Passing
pub mod Listing
pub mod Judging
