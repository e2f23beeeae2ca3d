-- Laws of the definitions, each with its proof, for the proofs of callers.
pub mod Elements
pub mod Gains
pub mod Keeping
pub mod Laid
pub mod Words
