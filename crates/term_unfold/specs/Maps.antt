-- The maps of a heap: what the keys of a flat map are, and what the children
-- of a hash map are. The cells that lead to a map play no part here.
use Rattle.std.specs.Prelude.{ℕ, ◌==◌, List, [], ◌∷◌, length, Option, None, Some, slice_index_or, if◌then◌else◌}
use Rattle.term_forms.specs.Elements.{Element, Nil, Ref}
use Rattle.term_forms.specs.Forms.{HeapForm, Cons, Tuple, Node}
use Rattle.std.specs.Option.{option_map, unwrap_or}
use Rattle.heap_cells.specs.Cells.{Cell}
use Rattle.heap_cells.specs.HeapMap.{number_at, address_at, form_at, elements_at}
use Rattle.cell_records.specs.declared.cells.Why.{Why}
use Rattle.cell_records.specs.declared.cells.Why.TheVariants.{Missing, Malformed}

-- the address of the cell with a number
abbrev pub address_of : List Cell → ℕ → ℕ
address_of heap n = unwrap_or (address_at heap n) 0

-- the element at a place, from 0, of the form of the cell with a number
abbrev pub element_at : List Cell → ℕ → ℕ → Element
element_at heap n place = slice_index_or (elements_at heap n) place Nil

-- the form of the cell with the address, if there is one; a malformed cell's form is `None`
abbrev pub form_at_address : List Cell → ℕ → Option (Option HeapForm)
form_at_address heap address = option_map (form_at heap) (number_at heap address)

-- The keys of a flat map.
pub data Keys : Type 0 where
  -- the map has no values, and its keys element isn't looked at
  no_keys : Keys
  -- the keys are the elements of the tuple at the address
  keys_at : ℕ → List Element → Keys
  -- the address is bad, and stands in the map's place
  bad_keys : ℕ → Why → Keys

-- the keys that are in the cell at an address: it has to be a tuple of as many elements as there are values
abbrev pub cell_keys : ℕ → ℕ → Option (Option HeapForm) → Keys
cell_keys k size None = bad_keys k Missing
cell_keys k size (Some (Some (Tuple elements))) = if length elements == size then keys_at k elements else bad_keys k Malformed
cell_keys k size (Some form) = bad_keys k Malformed

-- the keys of this many values, from the keys element; if
-- that is no reference, it is bad at the map's own address
abbrev pub element_keys : List Cell → ℕ → ℕ → Element → Keys
element_keys heap map size (Ref k) = cell_keys k size (form_at_address heap k)
element_keys heap map size element = bad_keys map Malformed

-- the keys of the flat map at an address, from its keys element and its values
abbrev pub keys_of_map : List Cell → ℕ → Element → List Element → Keys
keys_of_map heap map keys [] = no_keys
keys_of_map heap map keys (value ∷ values) = element_keys heap map (length (value ∷ values)) keys

-- A child of a hash map or of one of its inner nodes.
pub data Member : Type 0 where
  -- a cons cell is a pair: its head is the key, and its tail the value
  pair_at : ℕ → Element → Element → Member
  -- a node or a tuple is an inner node: its elements are children
  inner_at : ℕ → List Element → Member
  -- the address is bad, and stands in the child's place
  bad_member : ℕ → Why → Member

-- the child at an address, by the form of the cell there: a cons cell is a
-- pair, a tuple or a node an inner node, and any other is malformed
abbrev pub cell_member : ℕ → Option (Option HeapForm) → Member
cell_member a None = bad_member a Missing
cell_member a (Some (Some (Cons head tail))) = pair_at a head tail
cell_member a (Some (Some (Tuple elements))) = inner_at a elements
cell_member a (Some (Some (Node children))) = inner_at a children
cell_member a (Some form) = bad_member a Malformed

-- the child that an element stands for; an immediate is bad at the address of its parent
abbrev pub member_of : List Cell → ℕ → Element → Member
member_of heap parent (Ref a) = cell_member a (form_at_address heap a)
member_of heap parent element = bad_member parent Malformed
