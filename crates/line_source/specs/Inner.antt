-- What only private functions cite.
pub mod Ends
pub mod LastLine
pub mod Starts
pub mod State
pub mod Takes
