pub mod Effects
pub mod CodeAsks
pub mod LaneAsks
pub mod Finals
pub mod Runs
