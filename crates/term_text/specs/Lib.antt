pub mod Cells
pub mod Cuts
pub mod Inner
pub mod Reach
pub mod Roots
