-- The shapes of cells, given the skeleton of the heap and the first elements of the tuples. Pids are shown or not.
use Rattle.std.specs.Prelude.{◌≡◌, ℕ, Bool, ◌==◌, ◌++◌, List, [], length, map, codes, nat_lt, Option, Some, if◌then◌else◌}
use Rattle.std.specs.Option.{option_map_or}
use Rattle.cell_graphs.specs.Graphs.{places_at}
use Rattle.heap_skeleton.specs.Kinds.{cell_kind}
use Rattle.cell_records.specs.declared.cells.Kind.{Kind}
use Rattle.cell_records.specs.declared.cells.Kind.TheVariants as kind
use Rattle.heap_skeleton.specs.Skeletons.{SkeletonMap, is_tuple}
use Rattle.term_forms.specs.Elements.{Element, Ref}
use Rattle.tuple_fronts.specs.Shapes.{comma_list, or_pid, plain_with, tag_text, tags_with}
use Rattle.tuple_fronts.specs.CellSets.{cell_with}
use Rattle.tuple_fronts.specs.Tuples.{TupleMap, front_at}

-- the shape of a cell of this kind, which is no tuple
abbrev pub kind_text : Option Kind → List ℕ
kind_text (Some kind.List) = codes "list()"
kind_text (Some kind.Float) = codes "float()"
kind_text (Some kind.Long) = codes "integer()"
kind_text (Some kind.Pid) = codes "pid()"
kind_text (Some kind.Port) = codes "port()"
kind_text (Some kind.Ext) = codes "external()"
kind_text (Some kind.HeapBin) = codes "binary()"
kind_text (Some kind.RefBin) = codes "binary()"
kind_text (Some kind.SubBin) = codes "binary()"
kind_text (Some kind.Flat) = codes "map()"
kind_text (Some kind.Hash) = codes "map()"
kind_text other = codes "malformed()"

-- a comma, if so many elements stand before
abbrev pub comma_behind : ℕ → List ℕ
comma_behind n = if nat_lt 0 n then codes "," else []

-- what stands behind so many shown elements of a tuple that has so many
abbrev pub end_text : ℕ → ℕ → List ℕ
end_text shown all = (if nat_lt 8 all then comma_behind shown ++ codes "..." else []) ++ codes "}"

-- a tuple that has so many elements, of which these are shown
abbrev pub tuple_with : ℕ → List (List ℕ) → List ℕ
tuple_with all texts = codes "{" ++ (comma_list texts ++ end_text (length texts) all)

-- the text of the element at a place of a tuple inside a message
abbrev pub tag_at : Bool → ℕ → Element → List ℕ
tag_at pids place e = or_pid pids (if place == 0 then tag_text e else codes "_") e

-- how many elements a cell has
abbrev pub size_of : SkeletonMap → ℕ → ℕ
size_of s cell = length (places_at s.leads cell)

-- the shape of a cell inside a message
abbrev pub inner_text : Bool → SkeletonMap → TupleMap → ℕ → List ℕ
inner_text pids s tuples cell =
    if is_tuple s cell then tuple_with (size_of s cell) (tags_with pids (front_at tuples cell)) else kind_text (cell_kind s.kinds cell)

-- these are the shapes that the tuples have inside messages
abbrev pub AreInner : Bool → SkeletonMap → TupleMap → List (List ℕ) → Type 0
AreInner pids s tuples texts = texts ≡ map (inner_text pids s tuples) tuples.cells

-- the shape of an element of a message
abbrev pub element_text : Bool → SkeletonMap → TupleMap → Element → List ℕ
element_text pids s tuples (Ref address) = option_map_or (inner_text pids s tuples) (cell_with s.addresses address) (codes "missing()")
element_text pids s tuples e = plain_with pids e

-- the shapes of the first elements of a cell
abbrev pub element_texts : Bool → SkeletonMap → TupleMap → ℕ → List (List ℕ)
element_texts pids s tuples cell = map (element_text pids s tuples) (front_at tuples cell)

-- the shape of a cell to which a message refers
abbrev pub subject_text : Bool → SkeletonMap → TupleMap → ℕ → List ℕ
subject_text pids s tuples cell =
    if is_tuple s cell then tuple_with (size_of s cell) (element_texts pids s tuples cell) else kind_text (cell_kind s.kinds cell)
