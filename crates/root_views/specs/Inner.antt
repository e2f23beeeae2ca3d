-- What only private functions and proofs cite.
pub mod Coming
pub mod Each
pub mod Hearing
pub mod Keeping
pub mod Lines
pub mod Mails
pub mod Splits
