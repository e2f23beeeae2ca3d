pub mod ByMarks
pub mod Counts
pub mod Cutting
pub mod FirstFacts
pub mod Kept
pub mod PairFacts
pub mod Parts
pub mod PlaceFacts
mod TagExamples
