pub mod Cells
pub mod DumpHeaps
pub mod HeapMap
pub mod Inner
pub mod Laws
pub mod Loading
pub mod Places
pub mod Targets
