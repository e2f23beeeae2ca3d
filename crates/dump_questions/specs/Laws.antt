-- Laws of the definitions, each with its proof, for the proofs of callers.
pub mod Bodies
pub mod Heaps
pub mod Reading
pub mod Runs
