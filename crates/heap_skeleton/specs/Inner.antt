-- What only private functions cite.
pub mod Hearing
pub mod Resolving
pub mod Shown
pub mod Targets
