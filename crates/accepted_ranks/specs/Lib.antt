pub mod Scopes
pub mod Kinded
