pub mod KeyedFacts
pub mod ShareFacts
