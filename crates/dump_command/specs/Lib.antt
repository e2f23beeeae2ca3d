pub mod Inner
pub mod Meaning
pub mod Report
