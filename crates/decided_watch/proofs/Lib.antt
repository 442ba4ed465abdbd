pub mod Tables
pub mod Noting
pub mod Facts
pub mod Deciding
pub mod Tries
