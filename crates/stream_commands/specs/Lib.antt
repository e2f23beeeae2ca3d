pub mod Inner
pub mod Rows
pub mod Stacks
pub mod Waits
