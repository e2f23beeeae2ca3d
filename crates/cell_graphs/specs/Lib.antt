pub mod Counts
pub mod Frontiers
pub mod Graphs
pub mod Laws
pub mod Reached
pub mod Rounds
