pub mod Gains
pub mod Lent
pub mod Passing
pub mod Places
