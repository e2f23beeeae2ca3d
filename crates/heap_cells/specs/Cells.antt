-- The cells of a heap: of all heap lines with the same address the first counts.
use Rattle.std.specs.Prelude.{ℕ, ◌==◌, ◌++◌, List, [], ◌∷◌, length, map, Option, if◌then◌else◌}
use Rattle.std.specs.Option.{option_map}
use Rattle.std.specs.List.{filter_map, list_any}
use Rattle.field_lines.specs.Lines.{TextLine, text_lines}
use Rattle.binary_payloads.specs.declared.enc.Enc.{Enc}
use Rattle.term_forms.specs.Words.{led_of}
pub use Rattle.heap_graph.specs.Cells.{Cell, cell_weight, elements_in, kind_of, spelled_cell, weight_of}

-- the cell of a line, if the line is a heap line: its address in hex, a `:`, and the text of the form
abbrev pub cell_of : Enc → TextLine → Option Cell
cell_of enc line = option_map (spelled_cell enc) (led_of line.text)

-- the cells of all heap lines of a body, including repeated addresses
abbrev pub line_cells : Enc → List ℕ → List Cell
line_cells enc body = filter_map (cell_of enc) (text_lines body)

-- the cells whose address is none of those seen, and isn't that of a cell before them
abbrev pub first_cells : List ℕ → List Cell → List Cell
first_cells seen [] = []
first_cells seen (cell ∷ cells) =
    let later = first_cells (seen ++ cell.address ∷ []) cells in
    if list_any (λ address. address == cell.address) seen then later else cell ∷ later

-- the cells of a heap: first those of its own body, then those of the literals
abbrev pub cells_of : Enc → List ℕ → List ℕ → List Cell
cells_of enc heap literals = first_cells [] (line_cells enc heap ++ line_cells enc literals)

-- how many of a heap's cells come from its own body
abbrev pub own_count : Enc → List ℕ → ℕ
own_count enc heap = length (first_cells [] (line_cells enc heap))

-- what makes a heap too dense: all heap lines of both bodies,
-- and the elements of their forms, including repeated addresses
abbrev pub weight : Enc → List ℕ → List ℕ → ℕ
weight enc heap literals = weight_of (line_cells enc heap ++ line_cells enc literals)

-- the addresses of the cells, in order
abbrev pub addresses : List Cell → List ℕ
addresses cells = map (λ cell. cell.address) cells
