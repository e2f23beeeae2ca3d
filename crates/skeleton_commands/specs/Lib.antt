pub mod Heavy
pub mod Paths
pub mod Rows
pub mod Shapes
pub mod Weights
