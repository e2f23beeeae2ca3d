pub mod Inner
pub mod Tallies
pub mod Trial
