pub mod Walking
pub mod Ready
