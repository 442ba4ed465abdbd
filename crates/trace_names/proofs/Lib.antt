pub mod Lists
pub mod Spelled
pub mod Scopes
pub mod Numbers
pub mod Programs
pub mod Coarrays
