pub mod Control
pub mod Results
