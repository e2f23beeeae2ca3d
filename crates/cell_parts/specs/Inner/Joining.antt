-- The parts after one more element.
use Rattle.std.specs.Prelude.{ℕ, ◌+◌, ◌==◌, Bool, List, [], ◌∷◌, ◌++◌, map, Option, slice_get, if◌then◌else◌}
use Rattle.std.specs.List.{list_any}
use Rattle.std.specs.Option.{option_map, option_map_or}
use Rattle.cell_parts.specs.Parts.{CellPart, PartElement}

-- the cell of the part at a place
abbrev pub cell_at : List CellPart → ℕ → Option ℕ
cell_at parts part = option_map (λ p. p.cell) (slice_get parts part)

-- whether the part is that of the cell
abbrev pub is_of : ℕ → CellPart → Bool
is_of cell part = part.cell == cell

-- the part, to which one more element leads if it is that of the cell
abbrev pub counted : ℕ → CellPart → CellPart
counted cell part = if is_of cell part then record part { elements = part.elements + 1 } else part

-- the part of the only element that leads to the cell
abbrev pub part_alone : ℕ → ℕ → List ℕ → CellPart
part_alone cell at label = record { cell = cell; elements = 1; at = at; label = label }

-- the parts after one more element that leads to the cell
abbrev pub joined : ℕ → ℕ → List ℕ → List CellPart → List CellPart
joined cell at label parts = map (counted cell) parts ++ (if list_any (is_of cell) parts then [] else part_alone cell at label ∷ [])

-- the parts after one more element
abbrev pub with_element : PartElement → List CellPart → List CellPart
with_element e parts = option_map_or (λ cell. joined cell e.at e.label parts) e.lead parts
