pub mod Held
pub mod Inner
pub mod References
pub mod Waits
