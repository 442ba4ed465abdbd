pub mod Lanes
pub mod Courses
pub mod Holds
pub mod LaneStates
pub mod LaneRuns
