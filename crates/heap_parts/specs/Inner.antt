-- What only private functions cite.
pub mod Bodies
pub mod Growing
pub mod Hearing
pub mod Pieces
