-- The parts that alone hold cells.
use Rattle.std.specs.Prelude.{ℕ, nat_lt, List, [], map, slice_index_or, Option, None, Some, if◌then◌else◌}
use Rattle.std.specs.List.{enumerate_from, filter_map, zip}
use Rattle.cell_parts.specs.Parts.{CellPart}
use Rattle.heap_cells.specs.Cells.{Cell}
use Rattle.heap_skeleton.specs.Skeletons.{SkeletonMap}
use Rattle.heap_weights.specs.declared.shares.Weight.{Weight}
use Rattle.text_groups.specs.Sorting.{most_first}
use Rattle.part_keys.specs.Keys.{key_label}
use Rattle.part_keys.specs.declared.key_places.PartPlace.{PartPlace}
use Rattle.part_weights.specs.Weights.{Row, row_of}
use Rattle.part_weights.specs.declared.held_parts.HeldPart.{HeldPart}

-- a part with its number, if it alone holds a cell
abbrev pub held_part : ℕ × Weight → Option HeldPart
held_part (part, weight) = if nat_lt 0 weight.cells then Some (record { part = part; weight = weight }) else None

-- the parts that alone hold a cell, where this is what each part alone holds
abbrev pub held_parts : List Weight → List HeldPart
held_parts alone = filter_map held_part (enumerate_from 0 alone)

-- the parts that alone hold a cell, those with the most words first
abbrev pub sorted_parts : List Weight → List HeldPart
sorted_parts alone = most_first (λ held. held.weight.words) (held_parts alone)

-- ---- their rows

-- past the last part
abbrev pub no_part : CellPart
no_part = record { cell = 0; elements = 0; at = 0; label = [] }

-- the row of a part that alone holds a cell
abbrev pub row_at : SkeletonMap → List CellPart → HeldPart → Row
row_at heap parts held = row_of heap (slice_index_or parts held.part no_part, held.weight)

-- the rows of parts that alone hold a cell
abbrev pub rows_at : SkeletonMap → List CellPart → List HeldPart → List Row
rows_at heap parts held = map (row_at heap parts) held

-- ---- their labels, if they are parts of a cell

-- where a part stands among the elements of a cell
abbrev pub part_place : ℕ → CellPart → PartPlace
part_place cell part = record { cell = cell; at = part.at; part = part.cell }

-- where the parts stand that alone hold a cell
abbrev pub held_place : ℕ → List CellPart → HeldPart → PartPlace
held_place cell parts held = part_place cell (slice_index_or parts held.part no_part)

-- a part with the key under which it stands as its label
abbrev pub under_key : List Cell → ℕ → CellPart → CellPart
under_key cells cell part = record part { label = key_label cells (part_place cell part) }

-- rows with these labels
abbrev pub with_labels : List (List ℕ) → List Row → List Row
with_labels labels rows = map (λ (row, label). record row { label = label }) (zip rows labels)
