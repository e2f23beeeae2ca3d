-- How parts are kept.
use Rattle.std.specs.Prelude.{◌≡◌, ℕ, ◌+◌, ◌<◌, ◌≤◌, ◌^◌, List, [], ◌∷◌, length, All, Some, slice_get, slice_range}
use Rattle.cell_parts.specs.Parts.{CellPart}
use Rattle.cell_parts.specs.declared.parts.Kept.{Kept}

-- the part with this cell
abbrev pub part_in : List ℕ → ℕ → Kept → CellPart
part_in labels cell k =
    record { cell = cell; elements = k.elements; at = k.at; label = slice_range labels k.from (k.from + k.size) }

-- the parts with these cells
abbrev pub parts_in : List ℕ → List ℕ → List Kept → List CellPart
parts_in labels [] kept = []
parts_in labels (cell ∷ cells) [] = []
parts_in labels (cell ∷ cells) (k ∷ kept) = part_in labels cell k ∷ parts_in labels cells kept

-- the number of each part and 1 is that at its cell, and of any other cell 0
pub record AreNumbered (places cells : List ℕ) : Type 0 where
  pub numbered : (i cell : ℕ) → slice_get cells i ≡ Some cell → slice_get places cell ≡ Some (i + 1)
  pub found : (i cell : ℕ) → slice_get places cell ≡ Some (i + 1) → slice_get cells i ≡ Some cell

-- the parts are kept with their labels and numbers
pub record AreKept (places cells : List ℕ) (kept : List Kept) (labels : List ℕ) : Type 0 where
  pub same : length kept ≡ length cells
  pub few : length cells + 1 < 2 ^ 32
  pub within : All (λ k. k.from + k.size ≤ length labels) kept
  pub placed : AreNumbered places cells
