-- What only private functions and proofs cite.
pub mod Cells
pub mod Headings
