pub mod Lifted
pub mod MachineRuns
pub mod NearLanes
