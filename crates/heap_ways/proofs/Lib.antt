pub mod KeptFacts
pub mod StepFacts
pub mod WrittenFacts
