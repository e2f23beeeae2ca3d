pub mod Elements
pub mod Inner
pub mod Laws
pub mod Over
pub mod Parts
pub mod Roots
