pub mod FirstLanes
