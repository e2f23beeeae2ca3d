pub mod RowTexts
pub mod TableFacts
