pub mod CellSets
pub mod CellShapes
pub mod CellTexts
pub mod Fronts
pub mod Inner
pub mod Laws
pub mod Shapes
pub mod Tuples
