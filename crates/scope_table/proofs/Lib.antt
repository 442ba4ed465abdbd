pub mod Counts
pub mod First
pub mod Orders
pub mod Places
pub mod Sets
pub mod Tables
pub mod Numbers
