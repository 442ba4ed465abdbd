pub mod Definitions
pub mod Headings
pub mod Results
pub mod Shapes
pub mod Wholes
