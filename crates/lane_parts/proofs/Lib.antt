pub mod FirstLanes
pub mod Starts
