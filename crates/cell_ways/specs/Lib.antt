pub mod Depths
pub mod Inner
pub mod Laws
pub mod Ways
