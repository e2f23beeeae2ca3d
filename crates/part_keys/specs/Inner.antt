-- What only private functions cite.
pub mod KeyTexts
pub mod PartTexts
