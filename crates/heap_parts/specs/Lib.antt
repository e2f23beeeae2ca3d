pub mod Inner
pub mod Parts
pub mod Places
pub mod Tables
pub mod Wholes
