mod KeyFacts
mod PartFacts
