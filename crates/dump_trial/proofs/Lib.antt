pub mod Contained
pub mod Looked
pub mod Memory
pub mod Opened
pub mod Sums
