pub mod Inner
pub mod Kinds
pub mod Skeletons
