pub mod Places
pub mod Ranks
pub mod References
