pub mod HeapReferences
pub mod Held
pub mod Inner
pub mod StoredBinaries
pub mod Usage
