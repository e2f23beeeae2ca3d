-- The shapes of the parts of the last level, as they are kept.
use Rattle.std.specs.Prelude.{ℕ, List, map}
use Rattle.std.specs.List.{zip}
use Rattle.text_groups.specs.declared.text_group.TextGroup.{TextGroup}
use Rattle.heap_levels.specs.Levels.{Shape}
use Rattle.heap_levels.specs.declared.shape_rows.ShapeGroup.{ShapeGroup}

-- a group as it is kept
abbrev pub kept_group : TextGroup → ShapeGroup
kept_group group = record { first = group.first; parts = group.count; words = group.weight }

-- a group with its text
abbrev pub kept_shape : ShapeGroup × List ℕ → Shape
kept_shape (group, text) = record { parts = group.parts; words = group.words; text = text }

-- groups with their texts
abbrev pub shown_shapes : List ShapeGroup → List (List ℕ) → List Shape
shown_shapes groups texts = map kept_shape (zip groups texts)
