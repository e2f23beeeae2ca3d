-- What only private functions cite.
pub mod Hearing
pub mod Kept
pub mod Texts
