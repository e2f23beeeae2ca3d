-- The shapes of parts. A part is a cell to which an element of another cell leads, or a term among the roots of a process.
use Rattle.std.specs.Prelude.{ℕ, ◌<◌, List, codes, map, All, Option, Some, slice_get, if◌then◌else◌}
use Rattle.std.specs.Option.{option_and_then, option_map_or}
use Rattle.heap_skeleton.specs.Kinds.{cell_kind}
use Rattle.cell_records.specs.declared.cells.Kind.{Kind}
use Rattle.cell_records.specs.declared.cells.Kind.TheVariants as kind
use Rattle.dump_sections.specs.Index.{Contents}
use Rattle.heap_cells.specs.Cells.{Cell}
use Rattle.heap_cells.specs.HeapMap.{form_at}
use Rattle.heap_skeleton.specs.Skeletons.{SkeletonMap}
use Rattle.term_forms.specs.Elements.{Element}
use Rattle.term_forms.specs.Forms.{HeapForm, Cons, Hash, Node}
use Rattle.tuple_fronts.specs.Fronts.{cells_for, listed}
use Rattle.tuple_fronts.specs.Shapes.{cell_shape, term_shape}
use Rattle.part_keys.specs.KeyPlaces.{is_list_kind}
use Rattle.part_keys.specs.declared.shaped.ShapedPart.{ShapedPart}
use Rattle.part_keys.specs.declared.shaped.ShapedPart.TheVariants as shaped

-- the shape of a part: of a pair in a hash map or one of its nodes that of its value, of any other cell that of a message that
-- refers to it
abbrev pub pair_shape : List Cell → Option HeapForm → Option HeapForm → ℕ → List ℕ
pair_shape cells (Some (Hash size children)) (Some (Cons key value)) n = term_shape cells value
pair_shape cells (Some (Node children)) (Some (Cons key value)) n = term_shape cells value
pair_shape cells whole part n = cell_shape cells n

-- ---- by what leads where in the heap

-- a child of a hash map, of which the value is shown if it is a pair
abbrev pub list_value : SkeletonMap → ℕ → ShapedPart
list_value s n = if is_list_kind (cell_kind s.kinds n) then shaped.Value n else shaped.Cell n

-- what is shown of a part of a cell of this kind
abbrev pub shaped_by : Option Kind → SkeletonMap → ℕ → ShapedPart
shaped_by (Some kind.Hash) s n = list_value s n
shaped_by (Some kind.Node) s n = list_value s n
shaped_by other s n = shaped.Cell n

-- the kind of a cell, if there is one
abbrev pub whole_kind : SkeletonMap → Option ℕ → Option Kind
whole_kind s cell = option_and_then (cell_kind s.kinds) cell

-- what is shown of a part of a cell, or of the roots
abbrev pub shaped_part : SkeletonMap → Option ℕ → ℕ → ShapedPart
shaped_part s whole n = shaped_by (whole_kind s whole) s n

-- it is one of so many cells
abbrev pub IsIn : ℕ → ShapedPart → Type 0
IsIn size (shaped.Cell n) = n < size
IsIn size (shaped.Value n) = n < size

-- the same, as a record
pub record IsShapedWithin (size : ℕ) (part : ShapedPart) : Type 0 where
  pub within : IsIn size part

-- each is
abbrev pub AreShapedWithin : ℕ → List ShapedPart → Type 0
AreShapedWithin size parts = All (IsShapedWithin size) parts

-- ---- what is shown

-- the shape of the term with a number, from 0, as that of a message; `?` if there is none
abbrev pub term_among : List Cell → List Element → ℕ → List ℕ
term_among cells elements i = option_map_or (term_shape cells) (slice_get elements i) (codes "?")

-- the shape of a part
abbrev pub part_shape : List Cell → ShapedPart → List ℕ
part_shape cells (shaped.Cell n) = cell_shape cells n
part_shape cells (shaped.Value n) = term_among cells (listed (form_at cells n)) 1

-- the shapes of parts of the heap of the process with this pid
abbrev pub part_shapes : List ℕ → Contents → List ℕ → List ShapedPart → List (List ℕ)
part_shapes dump index pid parts = map (part_shape (cells_for dump index pid)) parts
