pub mod Frames
pub mod Groups
pub mod Inner
pub mod Places
pub mod Rows
