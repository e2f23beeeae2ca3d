-- The walk over the elements of a cell.
use Rattle.std.specs.Prelude.{◌≡◌, ℕ, ◌+◌, ◌<◌, ◌≤◌, Bool, not, List, [], ◌∷◌, ◌++◌, All, length, drop, reverse, Option, if◌then◌else◌, slice_index_or, false}
use Rattle.std.specs.List.{flat_map}
use Rattle.cell_records.specs.declared.cells.Kind.{Kind}
use Rattle.cell_graphs.specs.Counts.{count_below}
use Rattle.cell_graphs.specs.Graphs.{Graph, places_at}
use Rattle.cell_graphs.specs.Frontiers.{is_on}
use Rattle.cell_parts.specs.Elements.{Spot, weighed_leads, placed_leads, spots_of, weighed_at}
use Rattle.heap_skeleton.specs.Kinds.{cell_kind}
use Rattle.cell_parts.specs.Parts.{ArePartsOf, CellParts, PartElement}
use Rattle.cell_parts.specs.declared.elements.Frame.{Frame}

-- the spot at a place of a cell that leads here
abbrev pub spot_at : List (Option Kind) → Frame → Option ℕ → Spot
spot_at kinds at lead = record { kind = cell_kind kinds at.cell; place = at.place; lead = lead }

-- the spots of a cell from a place on
abbrev pub spots_from : List (Option Kind) → Graph → Frame → List Spot
spots_from kinds graph at = drop at.place (spots_of kinds graph at.cell)

-- the spots to which the walk has still to come; the last frame is the innermost
abbrev pub waiting : List (Option Kind) → Graph → List Frame → List Spot
waiting kinds graph frames = flat_map (spots_from kinds graph) (reverse frames)

-- each frame is at a place
abbrev pub AreFrames : Graph → List Frame → Type 0
AreFrames graph frames = All (λ at. at.place < length (places_at graph at.cell)) frames

-- the cells that were passed are those that are marked
abbrev pub AreMarked : List Bool → List ℕ → Type 0
AreMarked marks passed = (n : ℕ) → n < length marks → slice_index_or marks n false ≡ is_on n passed

-- how many places the cells have that aren't marked
abbrev pub places_left : List Bool → Graph → ℕ
places_left [] graph = 0
places_left (mark ∷ marks) [] = 0
places_left (mark ∷ marks) (places ∷ graph) = (if mark then 0 else length places) + places_left marks graph

-- how many cells that may have a kind weren't passed
abbrev pub unpassed : List (Option Kind) → List ℕ → ℕ
unpassed kinds passed = count_below (λ n. not (is_on n passed)) (length kinds)

-- after what there was before these elements were added
pub record HasAdded (before : CellParts) (leads : List (Option ℕ)) (parts : CellParts) : Type 0 where
  pub count : parts.elements ≡ before.elements + length leads
  pub parts_are : (elements : List PartElement) → ArePartsOf elements before → ArePartsOf (elements ++ placed_leads leads) parts

-- some of the elements of the cell were added, and the others are those at these spots
pub record IsWalking (kinds : List (Option Kind)) (graph : Graph) (cell : ℕ) (before parts : CellParts) (marks : List Bool) (spots : List Spot) : Type 0 where
  pub leads : List (Option ℕ)
  pub passed : List ℕ
  pub bound : ℕ
  pub added : HasAdded before leads parts
  pub marked : AreMarked marks passed
  pub room : unpassed kinds passed ≤ bound
  pub whole : weighed_leads kinds graph cell ≡ leads ++ weighed_at bound kinds graph passed spots
