mod BinaryFacts
pub mod CountFacts
pub mod FirstFacts
pub mod GrowFacts
pub mod HearFacts
pub mod LineFacts
pub mod PlaceFacts
pub mod ReadFacts
pub mod WholeFacts
