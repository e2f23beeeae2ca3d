-- What only private functions cite: numbers that lead to others.
pub mod Blocking
pub mod Leading
pub mod Meeting
pub mod Numbering
pub mod Peeling
pub mod Telling
