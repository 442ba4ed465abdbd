pub mod Places
pub mod Start
pub mod Engine
pub mod Walk
