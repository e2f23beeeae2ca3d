-- What contracts see of level 0 and of a shape: its value, regardless of where it lies in memory.
use Rattle.heap_levels.specs.Levels.{KindWeighing, Shape}
use Rattle.heap_levels.specs.declared.kinds.KindLevel.{KindLevel}
use Rattle.heap_levels.specs.declared.shape_rows.ShapeRow.{ShapeRow}

-- level 0
abbrev pub shown_level : KindLevel → KindWeighing
shown_level level = record { rows = level.rows.items; shared = level.shared; reached = level.reached }

-- a shape whose text is borrowed
abbrev pub shown_shape : ShapeRow → Shape
shown_shape row = record { parts = row.parts; words = row.words; text = row.text.now }
