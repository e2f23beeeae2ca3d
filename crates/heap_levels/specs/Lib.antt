pub mod Inner
pub mod Laws
pub mod Levels
pub mod Shown
