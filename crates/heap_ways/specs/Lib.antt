pub mod Inner
pub mod Laws
pub mod Shown
pub mod Steps
pub mod Ways
