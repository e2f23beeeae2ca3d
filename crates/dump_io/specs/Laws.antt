-- Laws of the definitions, each with its proof, for the proofs of callers.
pub mod Colons
pub mod Digits
pub mod HexNumbers
pub mod LineFeeds
pub mod Lines
pub mod Lists
pub mod Options
pub mod Puts
pub mod Reads
pub mod Texts
