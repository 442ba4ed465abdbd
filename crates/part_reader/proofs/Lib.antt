pub mod Deepened
