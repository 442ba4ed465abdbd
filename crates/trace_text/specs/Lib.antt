pub mod Words
pub mod TraceText
pub mod Forms
