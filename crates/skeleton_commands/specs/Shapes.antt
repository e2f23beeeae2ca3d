-- The report of `shapes`. Offsets are of the file.
use Rattle.std.specs.Prelude.{ℕ, List, [], ◌∷◌, ◌++◌, length, take, decimal, codes}
use Rattle.std.specs.List.{flat_map}
use Rattle.message_shapes.specs.Messages.{Message, ShapeMap, message_at}
use Rattle.text_groups.specs.declared.text_group.TextGroup.{TextGroup}
use Rattle.report_lines.specs.Lines.{line_of, tab, word_space}

-- the line of a group: how many messages it has, where the first of them stands, and their shape
abbrev pub shape_line : List Message → TextGroup → List ℕ
shape_line messages group =
    let first = message_at messages group.first in
    line_of tab (codes "shape" ∷ decimal group.count ∷ decimal first.at ∷ first.shape ∷ [])

-- the last line: how many shapes there are, and how many messages
abbrev pub shapes_line : ℕ → ℕ → List ℕ
shapes_line shapes messages = line_of word_space (codes "shapes" ∷ decimal shapes ∷ codes "messages" ∷ decimal messages ∷ [])

-- the report of `shapes`, with at most this many groups
abbrev pub shapes_report : ℕ → ShapeMap → List ℕ
shapes_report most found =
    flat_map (shape_line found.messages) (take most found.groups) ++ shapes_line (length found.groups) (length found.messages)
