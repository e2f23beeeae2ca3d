-- Under which key a part of a map stands. A part is a cell, and stands at the place of the first of the weighed elements
-- of another cell that leads to it.
use Rattle.std.specs.Prelude.{ℕ, zero, suc, List, [], codes, map, Option, Some, slice_get}
use Rattle.std.specs.Option.{option_map_or}
use Rattle.dump_sections.specs.Index.{Contents}
use Rattle.heap_cells.specs.Cells.{Cell}
use Rattle.heap_cells.specs.HeapMap.{form_at, number_at}
use Rattle.term_forms.specs.Elements.{Element, Ref}
use Rattle.term_forms.specs.Forms.{HeapForm, Cons, Tuple, Flat, Hash, Node}
use Rattle.tuple_fronts.specs.Fronts.{cells_for, listed}
use Rattle.tuple_fronts.specs.Shapes.{element_shape}
use Rattle.part_keys.specs.declared.key_places.KeyPlace.{KeyPlace}
use Rattle.part_keys.specs.declared.key_places.KeyPlace.TheVariants as place
use Rattle.part_keys.specs.declared.key_places.PartPlace.{PartPlace}

-- the elements of a tuple; no other form has any
abbrev pub tuple_elements : Option HeapForm → List Element
tuple_elements (Some (Tuple elements)) = elements
tuple_elements form = []

-- the keys of a flat map whose element for them this is: the elements of the tuple to which it refers
abbrev pub keys_at : List Cell → Element → List Element
keys_at cells (Ref address) = option_map_or (λ n. tuple_elements (form_at cells n)) (number_at cells address) []
keys_at cells e = []

-- the shape of the element with a number, from 0; `?` if there is none
abbrev pub shape_among : List Cell → List Element → ℕ → List ℕ
shape_among cells elements i = option_map_or (element_shape cells) (slice_get elements i) (codes "?")

-- the label of what stands at a place of a flat map: at the first place are the keys, and behind it the values
abbrev pub value_label : List Cell → Element → ℕ → List ℕ
value_label cells keys zero = codes "-"
value_label cells keys (suc i) = shape_among cells (keys_at cells keys) i

-- the label of a child of a hash map or of one of its nodes: a pair of a key and a value is a list
abbrev pub pair_label : List Cell → Option HeapForm → List ℕ
pair_label cells (Some (Cons head tail)) = element_shape cells head
pair_label cells form = codes "-"

-- the label of a part with this cell at a place of a cell of this form; only parts of maps have keys
abbrev pub label_in : List Cell → Option HeapForm → ℕ → ℕ → List ℕ
label_in cells (Some (Flat keys values)) at part = value_label cells keys at
label_in cells (Some (Hash size children)) at part = pair_label cells (form_at cells part)
label_in cells (Some (Node children)) at part = pair_label cells (form_at cells part)
label_in cells form at part = codes "-"

-- the label of a part of a cell
abbrev pub key_label : List Cell → PartPlace → List ℕ
key_label cells p = label_in cells (form_at cells p.cell) p.at p.part

-- ---- by where keys stand

-- the shape of the key that stands at a place
abbrev pub place_shape : List Cell → KeyPlace → List ℕ
place_shape cells place.NoKey = codes "-"
place_shape cells place.Unknown = codes "?"
place_shape cells (place.At cell i) = shape_among cells (listed (form_at cells cell)) i

-- the shapes of keys of the heap of the process with this pid
abbrev pub key_shapes : List ℕ → Contents → List ℕ → List KeyPlace → List (List ℕ)
key_shapes dump index pid places = map (place_shape (cells_for dump index pid)) places
