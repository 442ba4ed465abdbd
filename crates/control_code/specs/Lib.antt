pub mod Control
pub mod Events
