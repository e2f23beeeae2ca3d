-- The tuples whose first elements are known.
use Rattle.std.specs.Prelude.{ℕ, List, [], ◌∷◌, take, flat_map, slice_index_or, Option, if◌then◌else◌}
use Rattle.std.specs.Option.{option_map_or}
use Rattle.cell_graphs.specs.Graphs.{places_at}
use Rattle.heap_skeleton.specs.Skeletons.{SkeletonMap, is_tuple}
use Rattle.term_forms.specs.Elements.{Element}
use Rattle.tuple_fronts.specs.CellSets.{place_of}

-- cells, and of each the first elements
pub record TupleMap : Type 0 where
  pub cells : List ℕ
  pub fronts : List (List Element)

-- the first elements of a cell; of one that isn't among them none
abbrev pub front_at : TupleMap → ℕ → List Element
front_at tuples cell = option_map_or (λ i. slice_index_or tuples.fronts i []) (place_of tuples.cells cell) []

-- ---- which are needed

-- a cell, if it is a tuple
abbrev pub tuple_or_none : SkeletonMap → ℕ → List ℕ
tuple_or_none s cell = if is_tuple s cell then cell ∷ [] else []

-- the cell to which a place leads, if it is a tuple
abbrev pub lead_tuple : SkeletonMap → Option ℕ → List ℕ
lead_tuple s lead = option_map_or (tuple_or_none s) lead []

-- a cell to which a message refers, if it is a tuple, and those of its first 8 elements that are
abbrev pub needed_at : SkeletonMap → ℕ → List ℕ
needed_at s cell = if is_tuple s cell then cell ∷ flat_map (lead_tuple s) (take 8 (places_at s.leads cell)) else []

-- the tuples that several cells need
abbrev pub needed : SkeletonMap → List ℕ → List ℕ
needed s cells = flat_map (needed_at s) cells
