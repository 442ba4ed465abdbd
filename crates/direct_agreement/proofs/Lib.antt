pub mod Sections
pub mod Agreement
pub mod Scalars
pub mod Arrays
pub mod Inquiries
pub mod Items
