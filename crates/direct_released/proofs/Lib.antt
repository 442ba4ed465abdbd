pub mod Quiet
pub mod QuietSteps
pub mod QuietTrees
pub mod Released
