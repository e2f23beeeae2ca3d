-- What only private functions and proofs cite.
pub mod Awaiting
pub mod Open
pub mod Parts
pub mod Serving
pub mod Standing
pub mod Walks
