-- What only private functions cite.
pub mod Hearing
pub mod Shaped
pub mod Telling
