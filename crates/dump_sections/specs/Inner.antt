-- What only private functions cite.
pub mod Counting
pub mod Headers
pub mod Marks
pub mod Places
pub mod Wanted
