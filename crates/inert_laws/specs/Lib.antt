pub mod Silent
pub mod InertSteps
