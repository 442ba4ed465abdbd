pub mod Designators
pub mod Expressions
pub mod Inquiries
pub mod Lists
pub mod Numbers
pub mod Selections
pub mod Sizes
