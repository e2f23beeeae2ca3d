-- What only private functions cite.
pub mod Finding
pub mod GoodDumps
pub mod Tallies
