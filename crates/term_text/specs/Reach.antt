-- The report of what the roots of a process reach. A set of cells is a test of their numbers.
use Rattle.std.specs.Prelude.{ℕ, ◌-◌, Bool, List, [], ◌∷◌, ◌++◌, length, decimal, codes}
use Rattle.std.specs.List.{flat_map}
use Rattle.dump_io.specs.Numbers.{hexadecimal}
use Rattle.term_forms.specs.Elements.{Element}
use Rattle.root_views.specs.Roots.{BodyRoot, term_in}
use Rattle.heap_cells.specs.HeapMap.{HeapMap}
use Rattle.heap_reach.specs.Unreached.{count_below, unreached_of}
use Rattle.report_lines.specs.Lines.{line_of, word_space}

-- the elements of the roots that are terms
abbrev pub root_elements : List BodyRoot → List Element
root_elements roots = flat_map (λ root. term_in root.content) roots

-- the line of a cell that isn't reached
abbrev pub unreached_line : ℕ → List ℕ
unreached_line address = line_of word_space (codes "unreached" ∷ hexadecimal address ∷ [])

-- the last line: how many cells a heap has of its own, how many of them are reached, and how many literals are reached
abbrev pub totals_line : ℕ → ℕ → ℕ → List ℕ
totals_line own reached literals =
    line_of word_space (codes "own" ∷ decimal own ∷ codes "reached" ∷ decimal reached ∷ codes "literals" ∷ decimal literals ∷ [])

-- the report on a heap of which this set of cells is reached: the literals come after its own cells
abbrev pub reach_report : HeapMap → (ℕ → Bool) → List ℕ
reach_report heap set =
    flat_map unreached_line (unreached_of heap set)
    ++ totals_line heap.own (count_below set heap.own) (count_below set (length heap.cells) - count_below set heap.own)
