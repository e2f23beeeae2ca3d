-- Where the keys of maps stand, by what leads where in the heap.
use Rattle.std.specs.Prelude.{ℕ, ◌-◌, ◌==◌, ◌<◌, ◌&&◌, Bool, true, false, nat_lt, if◌then◌else◌, List, [], ◌∷◌, length, All, Option, None, Some}
use Rattle.cell_graphs.specs.Graphs.{places_at}
use Rattle.heap_skeleton.specs.Kinds.{cell_kind}
use Rattle.cell_records.specs.declared.cells.Kind.{Kind}
use Rattle.cell_records.specs.declared.cells.Kind.TheVariants as kind
use Rattle.heap_skeleton.specs.Skeletons.{SkeletonMap, is_tuple}
use Rattle.part_keys.specs.declared.key_places.KeyPlace.{KeyPlace}
use Rattle.part_keys.specs.declared.key_places.KeyPlace.TheVariants as place
use Rattle.part_keys.specs.declared.key_places.PartPlace.{PartPlace}

-- the cell to which the first of these places leads
abbrev pub first_lead : List (Option ℕ) → Option ℕ
first_lead [] = None
first_lead (lead ∷ leads) = lead

-- the key with a number, from 0, of a flat map whose first place leads here
abbrev pub key_of : SkeletonMap → Option ℕ → ℕ → KeyPlace
key_of s None i = place.Unknown
key_of s (Some keys) i = if is_tuple s keys && nat_lt i (length (places_at s.leads keys)) then place.At keys i else place.Unknown

-- the key of what stands at a place of a flat map
abbrev pub value_key : SkeletonMap → ℕ → ℕ → KeyPlace
value_key s cell at = if at == 0 then place.NoKey else key_of s (first_lead (places_at s.leads cell)) (at - 1)

-- whether a cell of this kind is a list
abbrev pub is_list_kind : Option Kind → Bool
is_list_kind (Some kind.List) = true
is_list_kind other = false

-- the key of a child of a hash map
abbrev pub pair_key : SkeletonMap → ℕ → KeyPlace
pair_key s part = if is_list_kind (cell_kind s.kinds part) then place.At part 0 else place.NoKey

-- the key of a part of a cell of this kind
abbrev pub key_by : Option Kind → SkeletonMap → PartPlace → KeyPlace
key_by (Some kind.Flat) s p = value_key s p.cell p.at
key_by (Some kind.Hash) s p = pair_key s p.part
key_by (Some kind.Node) s p = pair_key s p.part
key_by other s p = place.NoKey

-- the key of a part of a cell
abbrev pub key_place : SkeletonMap → PartPlace → KeyPlace
key_place s p = key_by (cell_kind s.kinds p.cell) s p

-- the key stands in one of so many cells
abbrev pub IsIn : ℕ → KeyPlace → Type 0
IsIn size (place.At cell i) = cell < size
IsIn size other = Unit {0}

-- if it stands anywhere, then in one of so many cells
pub record IsKeyWithin (size : ℕ) (key : KeyPlace) : Type 0 where
  pub within : IsIn size key

-- each does
abbrev pub AreKeysWithin : ℕ → List KeyPlace → Type 0
AreKeysWithin size keys = All (IsKeyWithin size) keys
