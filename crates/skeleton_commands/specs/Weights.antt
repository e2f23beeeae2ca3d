-- The report of `weigh`.
use Rattle.std.specs.Prelude.{ℕ, List, [], ◌∷◌, ◌++◌, take, decimal, codes, Option}
use Rattle.std.specs.List.{flat_map}
use Rattle.std.specs.Option.{option_map_or}
use Rattle.dump_io.specs.Numbers.{hexadecimal}
use Rattle.heap_weights.specs.declared.shares.Weight.{Weight}
use Rattle.part_weights.specs.Weights.{Row, Weighing}
use Rattle.report_lines.specs.Lines.{line_of, tab, word_space}
use Rattle.text_groups.specs.Sums.{capped}
use Rattle.term_text.specs.Cells.{cell_word}

-- the numbers of what a part alone holds: words, cells, and how many of these refer to binaries
abbrev pub held_text : Row → List ℕ
held_text row = codes "part\t" ++ (decimal (capped row.words) ++ (tab ++ (decimal row.cells ++ (tab ++ (decimal row.binaries ++ tab)))))

-- the kind and the address of a part's cell, how many elements lead to it, and where the first of them stands
abbrev pub cell_line : Row → List ℕ
cell_line row = line_of tab (cell_word row.kind ∷ hexadecimal row.address ∷ decimal row.elements ∷ decimal row.at ∷ row.label ∷ [])

-- the line of a part
abbrev pub part_line : Row → List ℕ
part_line row = held_text row ++ cell_line row

-- the line of several cells: what they are, their words, how many they are, and how many of them refer to binaries
abbrev pub weight_line : List ℕ → Weight → List ℕ
weight_line word weight = line_of tab (word ∷ decimal (capped weight.words) ∷ decimal weight.cells ∷ decimal weight.binaries ∷ [])

-- the line of what the cell reaches whose elements are weighed, if they are those of one
abbrev pub within_line : Option Weight → List ℕ
within_line within = option_map_or (weight_line (codes "cell")) within []

-- the last line: how many elements are weighed, and how many parts they make
abbrev pub parts_line : ℕ → ℕ → List ℕ
parts_line elements parts = line_of word_space (codes "elements" ∷ decimal elements ∷ codes "parts" ∷ decimal parts ∷ [])

-- the lines behind those of the parts
abbrev pub totals : Weighing → List ℕ
totals w =
    within_line w.within ++ (weight_line (codes "shared") w.shared ++ (weight_line (codes "reached") w.reached
    ++ (weight_line (codes "own") w.own ++ parts_line w.elements w.parts)))

-- the report of `weigh`, with at most this many parts
abbrev pub weights_report : ℕ → Weighing → List ℕ
weights_report most w = flat_map part_line (take most w.rows) ++ totals w
