-- What only private functions cite.
pub mod Loads
pub mod Stops
pub mod Waits
