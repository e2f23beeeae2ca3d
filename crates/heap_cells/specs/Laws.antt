-- Laws of the definitions, each with its proof, for the proofs of those who read heaps.
pub mod Cells
