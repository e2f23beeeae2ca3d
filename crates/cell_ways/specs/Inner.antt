-- What only private functions cite.
pub mod Search
pub mod Sweeps
