pub mod Images
pub mod Sections
pub mod Teams
pub mod Portions
