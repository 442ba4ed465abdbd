pub mod Statuses
pub mod Closes
pub mod Views
pub mod Touching
pub mod FirstRaces
pub mod OwnLists
pub mod Turns
pub mod Missed
