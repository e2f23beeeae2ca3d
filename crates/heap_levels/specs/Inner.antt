-- What only private functions cite.
pub mod Descent
pub mod KindGraphs
pub mod Kinds
pub mod Plain
pub mod Reading
pub mod Shapes
