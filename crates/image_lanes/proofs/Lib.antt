pub mod LaneRows
pub mod Plainly
pub mod LaneLaws
pub mod CourseLaws
pub mod Releases
pub mod Giving
pub mod FailureLaws
