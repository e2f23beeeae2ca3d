pub mod Held
pub mod Inner
pub mod Laws
pub mod Shown
pub mod Weights
