pub mod Messages
pub mod Peeks
pub mod SameHeaps
