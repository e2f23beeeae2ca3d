-- What the definitions of the elements and the parts imply.
use Rattle.std.specs.Prelude.{◌≡◌, ℕ, ◌+◌, ◌==◌, List, [], ◌∷◌, length, Option}
use Rattle.std.specs.List.{list_any}
use Rattle.cell_records.specs.declared.cells.Kind.{Kind}
use Rattle.cell_graphs.specs.Graphs.{Graph}
use Rattle.cell_parts.specs.Elements.{spots_of, weighed_at, weighed_leads}
use Rattle.cell_parts.specs.Parts.{PartElement, is_for, parts_made}

-- with a larger bound on how many spots open the elements are the same
abbrev pub IsNoneCutOff : Type 0
IsNoneCutOff = (kinds : List (Option Kind)) (graph : Graph) (cell more : ℕ)
    → weighed_at (length kinds + more) kinds graph (cell ∷ []) (spots_of kinds graph cell) ≡ weighed_leads kinds graph cell

-- a cell has a part exactly if an element leads to it
abbrev pub HasPartIfLedTo : Type 0
HasPartIfLedTo = (elements : List PartElement) (cell : ℕ)
    → list_any (λ part. part.cell == cell) (parts_made elements) ≡ list_any (is_for cell) elements
