pub mod Inner
pub mod Messages
pub mod Shapes
