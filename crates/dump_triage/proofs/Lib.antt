pub mod GroupFacts
pub mod RankFacts
pub mod StateFacts
