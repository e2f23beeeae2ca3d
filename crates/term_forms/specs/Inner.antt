-- What only private functions and proofs cite: how the readers proceed. Nobody has to believe it.
pub mod Ends
pub mod Tags
