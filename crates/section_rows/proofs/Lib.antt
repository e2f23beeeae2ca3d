pub mod Cells
pub mod Colons
mod Examples
pub mod Heads
pub mod Loaded
pub mod Passing
