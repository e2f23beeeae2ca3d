pub mod Inner
pub mod Laws
pub mod Rows
pub mod Shown
