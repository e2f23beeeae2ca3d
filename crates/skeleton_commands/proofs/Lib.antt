mod CutLoads
mod PathLoads
pub mod RowFacts
mod WeightLoads
