-- The report of `path`.
use Rattle.std.specs.Prelude.{ℕ, List, [], ◌∷◌, ◌++◌, decimal, codes}
use Rattle.std.specs.List.{flat_map}
use Rattle.std.specs.Option.{option_map, option_map_or}
use Rattle.dump_io.specs.Numbers.{hexadecimal}
use Rattle.heap_ways.specs.Ways.{Line, Tails, Single, Way, WayRoot}
use Rattle.report_lines.specs.Lines.{line_of, tab, text_or_dash, total_line, word_space}
use Rattle.term_text.specs.Cells.{cell_word}

-- the line of the root with which a way begins
abbrev pub root_line : WayRoot → List ℕ
root_line root = line_of tab (codes "root" ∷ decimal root.at ∷ root.label ∷ [])

-- the line of lists that follow on each other, or of a cell: its address and kind, the
-- place of it that leads to the next cell, and the shape of a tuple
abbrev pub step_line : Line → List ℕ
step_line (Tails address count) = line_of tab (codes "tails" ∷ hexadecimal address ∷ decimal count ∷ [])
step_line (Single address kind place front) =
    line_of tab (codes "cell" ∷ hexadecimal address ∷ cell_word kind ∷ text_or_dash (option_map decimal place) ∷ text_or_dash front ∷ [])

-- a way to a cell of this depth
abbrev pub way_lines : Way → ℕ → List ℕ
way_lines way depth = root_line way.root ++ (flat_map step_line way.lines ++ total_line (codes "depth") depth)

-- the report of `path`: a cell that isn't reached has no depth
abbrev pub path_report : Way → List ℕ
path_report way = option_map_or (way_lines way) way.depth (line_of word_space (codes "unreached" ∷ []))
