pub mod GatheringFacts
pub mod HeapFacts
pub mod RecordFacts
pub mod SpelledFacts
pub mod TargetFacts
