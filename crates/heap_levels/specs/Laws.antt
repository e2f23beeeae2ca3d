-- Laws of the definitions, each with its proof, for the proofs of callers.
pub mod Weighed
