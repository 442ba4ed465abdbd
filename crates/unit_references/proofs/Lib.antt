pub mod Behind
pub mod SameTrees
