pub mod Counting
pub mod Reading
pub mod Sizes
pub mod Subscripts
pub mod Ways
pub mod Orders
pub mod Rests
pub mod Found
