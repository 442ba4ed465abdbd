pub mod Joining
mod Tries
