-- The shapes of keys, given the skeleton of the heap, the first elements of the cells in which keys stand, and those of
-- the tuples to which keys refer.
use Rattle.std.specs.Prelude.{ℕ, ◌<◌, false, List, [], ◌∷◌, codes, flat_map, All, Option, slice_get}
use Rattle.std.specs.Option.{option_and_then, option_map_or}
use Rattle.cell_graphs.specs.Graphs.{places_at}
use Rattle.heap_skeleton.specs.Skeletons.{SkeletonMap}
use Rattle.part_keys.specs.declared.key_places.KeyPlace.{KeyPlace}
use Rattle.part_keys.specs.declared.key_places.KeyPlace.TheVariants as place
use Rattle.tuple_fronts.specs.CellTexts.{element_text}
use Rattle.tuple_fronts.specs.Tuples.{TupleMap, front_at, lead_tuple}

-- the cell in which a key stands
abbrev pub key_cells : KeyPlace → List ℕ
key_cells (place.At cell i) = cell ∷ []
key_cells key = []

-- the cells in which several keys stand
abbrev pub all_key_cells : List KeyPlace → List ℕ
all_key_cells keys = flat_map key_cells keys

-- the cell to which the place of a cell leads
abbrev pub lead_at : SkeletonMap → ℕ → ℕ → Option ℕ
lead_at s cell i = option_and_then (λ lead. lead) (slice_get (places_at s.leads cell) i)

-- the tuple to which a key refers
abbrev pub key_tuples : SkeletonMap → KeyPlace → List ℕ
key_tuples s (place.At cell i) = lead_tuple s (lead_at s cell i)
key_tuples s key = []

-- the tuples to which several keys refer
abbrev pub all_key_tuples : SkeletonMap → List KeyPlace → List ℕ
all_key_tuples s keys = flat_map (key_tuples s) keys

-- a key is one of the first so many elements of its cell
abbrev pub IsFirst : ℕ → KeyPlace → Type 0
IsFirst most (place.At cell i) = i < most
IsFirst most key = Unit {0}

-- it is, if it stands anywhere
pub record IsAmong (most : ℕ) (key : KeyPlace) : Type 0 where
  pub first : IsFirst most key

-- each is
abbrev pub AreAmong : ℕ → List KeyPlace → Type 0
AreAmong most keys = All (IsAmong most) keys

-- the shape of a key
abbrev pub key_text : SkeletonMap → TupleMap → TupleMap → KeyPlace → List ℕ
key_text s firsts tuples place.NoKey = codes "-"
key_text s firsts tuples place.Unknown = codes "?"
key_text s firsts tuples (place.At cell i) = option_map_or (element_text false s tuples) (slice_get (front_at firsts cell) i) (codes "?")
