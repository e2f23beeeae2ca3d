pub mod CellFacts
mod CommaFacts
pub mod HearFacts
pub mod KeptFacts
pub mod LoadFacts
mod NeededFacts
pub mod PartFacts
pub mod ReadFacts
pub mod RunFacts
mod SetFacts
mod ShownFacts
mod TextFacts
