pub mod Departures
pub mod Pairing
pub mod HeldLocks
pub mod Allocated
pub mod Fitting
pub mod Declaring
