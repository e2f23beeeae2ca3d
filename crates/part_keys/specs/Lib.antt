pub mod Inner
pub mod KeyPlaces
pub mod Keys
pub mod Laws
pub mod PartShapes
