-- What is shown of parts is their shape.
use Rattle.std.proofs.Common.{◌≡◌, ℕ, List, [], ◌∷◌, map, Option, None, Some, refl, ◌∙◌, ap, ap₂}
use Rattle.std.specs.Prelude.{if◌then◌else◌}
use Rattle.std.specs.Option.{option_and_then, option_map}
use Rattle.cell_records.specs.declared.cells.Kind.{Kind}
use Rattle.dump_sections.specs.Index.{Contents, sections_in}
use Rattle.heap_cells.specs.Cells.{Cell, kind_of}
use Rattle.heap_cells.specs.HeapMap.{HeapMap, form_at}
use Rattle.heap_cells.specs.Loading.{heap_section, literals_section}
use Rattle.heap_skeleton.specs.Skeletons.{SkeletonMap, heap_in, lines_in, skeleton_for, skeleton_of}
use Rattle.term_forms.specs.Elements.{Element}
use Rattle.term_forms.specs.Forms.{HeapForm, Cons, Hash, Node}
use Rattle.tuple_fronts.specs.Fronts.{cells_for, listed}
use Rattle.tuple_fronts.specs.Laws.CellTexts.{kind-in}
use Rattle.part_keys.specs.KeyPlaces.{is_list_kind}
use Rattle.part_keys.specs.PartShapes.{pair_shape, part_shape, shaped_by, shaped_part, term_among, whole_kind}
use Rattle.part_keys.specs.declared.shaped.ShapedPart.TheVariants as shaped

module _ (heap : HeapMap) (lines : List ℕ) where
  abbrev cells : List Cell
  cells = heap.cells

  -- what leads where in the heap
  abbrev s : SkeletonMap
  s = skeleton_of heap lines

  -- ---- a child of a hash map

  hash-child : (size : ℕ) (children : List Element) (n : ℕ) (o : Option HeapForm) → form_at cells n ≡ o
      → part_shape cells (if is_list_kind (option_map kind_of o) then shaped.Value n else shaped.Cell n) ≡ pair_shape cells (Some (Hash size children)) o n
  hash-child size children n None is = refl
  hash-child size children n (Some (Cons head tail)) is = ap (λ o. term_among cells (listed o) 1) is
  hash-child size children n (Some form) is = refl

  node-child : (children : List Element) (n : ℕ) (o : Option HeapForm) → form_at cells n ≡ o
      → part_shape cells (if is_list_kind (option_map kind_of o) then shaped.Value n else shaped.Cell n) ≡ pair_shape cells (Some (Node children)) o n
  node-child children n None is = refl
  node-child children n (Some (Cons head tail)) is = ap (λ o. term_among cells (listed o) 1) is
  node-child children n (Some form) is = refl

  -- what is shown of a list is its value
  abbrev shown_list : ℕ → Option Kind → List ℕ
  shown_list n kind = part_shape cells (if is_list_kind kind then shaped.Value n else shaped.Cell n)

  -- ---- any part

  shape-by : (o : Option HeapForm) (n : ℕ) → part_shape cells (shaped_by (option_map kind_of o) s n) ≡ pair_shape cells o (form_at cells n) n
  shape-by None n = refl
  shape-by (Some (Hash size children)) n = ap (shown_list n) (kind-in cells n) ∙ hash-child size children n (form_at cells n) refl
  shape-by (Some (Node children)) n = ap (shown_list n) (kind-in cells n) ∙ node-child children n (form_at cells n) refl
  shape-by (Some form) n = refl

  whole-kind : (whole : Option ℕ) → whole_kind s whole ≡ option_map kind_of (option_and_then (form_at cells) whole)
  whole-kind None = refl
  whole-kind (Some n) = kind-in cells n

  -- what is shown of a part of a cell, or of the roots, is its shape
  pub shape-is : (whole : Option ℕ) (part : ℕ) → part_shape cells (shaped_part s whole part) ≡ pair_shape cells (option_and_then (form_at cells) whole) (form_at cells part) part
  shape-is whole part = ap (λ kind. part_shape cells (shaped_by kind s part)) (whole-kind whole) ∙ shape-by (option_and_then (form_at cells) whole) part

-- the shapes of parts of a cell, or of the roots
pub shapes-are : (dump : List ℕ) (index : Contents) (pid : List ℕ) (s : SkeletonMap) (whole : Option ℕ) (parts : List ℕ) → s ≡ skeleton_for dump index pid
    → map (part_shape (cells_for dump index pid)) (map (shaped_part s whole) parts)
    ≡ map (λ n. pair_shape (cells_for dump index pid) (option_and_then (form_at (cells_for dump index pid)) whole) (form_at (cells_for dump index pid) n) n) parts
shapes-are dump index pid s whole parts is = ap (λ k. map (part_shape (cells_for dump index pid)) (map (shaped_part k whole) parts)) is ∙ each parts
  where
    each : (parts : List ℕ) → map (part_shape (cells_for dump index pid)) (map (shaped_part (skeleton_for dump index pid) whole) parts)
        ≡ map (λ n. pair_shape (cells_for dump index pid) (option_and_then (form_at (cells_for dump index pid)) whole) (form_at (cells_for dump index pid) n) n) parts
    each [] = refl
    each (n ∷ parts) =
        let sections = sections_in index in
        let heap = heap_in dump index (heap_section pid sections) (literals_section sections) in
        let lines = lines_in dump (heap_section pid sections) (literals_section sections) in
        ap₂ (λ a b. a ∷ b) (shape-is heap lines whole n) (each parts)
