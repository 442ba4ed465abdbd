pub mod Begun
pub mod Determined
pub mod Ended
pub mod Program
pub mod Slots
