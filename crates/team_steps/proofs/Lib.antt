pub mod IndexSteps
pub mod NamedSteps
pub mod CurrentSteps
