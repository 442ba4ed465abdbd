pub mod Steps
pub mod Spoken
pub mod Known
pub mod Partners
pub mod Failures
