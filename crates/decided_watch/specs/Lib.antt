pub mod Undecided
pub mod EventTables
