pub mod BodyFacts
pub mod EntryFacts
pub mod Examples
pub mod PlaceFacts
