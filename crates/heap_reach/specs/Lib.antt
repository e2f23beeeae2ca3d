pub mod Reached
pub mod Rounds
pub mod Unreached
