mod FinishFacts
mod KeyFacts
mod KindFacts
mod LabelFacts
mod LevelFacts
mod RowFacts
mod ShapeFacts
