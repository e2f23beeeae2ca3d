pub mod Examples
pub mod FieldFacts
pub mod PartFacts
