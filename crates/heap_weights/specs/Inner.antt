pub mod Labels
pub mod Tallies
