pub mod FindingCounts
pub mod Inner
pub mod Ranking
pub mod Triage
