-- What only private functions cite.
pub mod Copying
pub mod Places
pub mod Writing
