pub mod Scopes
pub mod Contents
