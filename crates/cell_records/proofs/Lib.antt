pub mod FirstFacts
pub mod OrderFacts
pub mod RankFacts
pub mod ResolvingFacts
