-- Where keys stand, and which they are.
use Rattle.std.proofs.Common.{◌≡◌, ℕ, zero, suc, ◌-◌, ◌≤◌, ◌==◌, Bool, true, false, List, [], ◌∷◌, length, map, Option, None, Some, refl, sym, ◌∙◌, ap, ap₂, arith}
use Rattle.std.specs.Prelude.{◌&&◌, codes, nat_lt, if◌then◌else◌}
use Rattle.std.specs.Option.{option_map, option_map_or}
use Rattle.std.proofs.lemmas.Bool.{eqb-true, false_from_ne_true, ltb-false}
use Rattle.std.proofs.lemmas.List.{length-map}
use Rattle.std.proofs.lemmas.Option.{slice_get_past}
use Rattle.cell_graphs.specs.Graphs.{cell_in, places_at, places_of}
use Rattle.cell_graphs.specs.Laws.HeapGraphs.{places-of}
use Rattle.dump_sections.specs.Index.{Contents, sections_in}
use Rattle.heap_cells.specs.Cells.{Cell, kind_of}
use Rattle.heap_cells.specs.HeapMap.{HeapMap, form_at, number_at}
use Rattle.heap_cells.specs.Loading.{heap_section, literals_section}
use Rattle.heap_cells.specs.Targets.{target, target_at}
use Rattle.heap_skeleton.specs.Skeletons.{SkeletonMap, heap_in, is_tuple_kind, lines_in, skeleton_for, skeleton_of}
use Rattle.term_forms.specs.Elements.{Element, Ref}
use Rattle.term_forms.specs.Forms.{HeapForm, Cons, Tuple, Flat, Hash, Node}
use Rattle.tuple_fronts.specs.Fronts.{cells_for, listed}
use Rattle.tuple_fronts.specs.Laws.CellTexts.{kind-in}
use Rattle.part_keys.specs.KeyPlaces.{first_lead, is_list_kind, key_by, key_of, key_place, pair_key}
use Rattle.part_keys.specs.Keys.{key_label, keys_at, label_in, pair_label, place_shape, shape_among, tuple_elements, value_label}
use Rattle.tuple_fronts.specs.Shapes.{element_shape}
use Rattle.part_keys.specs.declared.key_places.KeyPlace.{KeyPlace}
use Rattle.part_keys.specs.declared.key_places.KeyPlace.TheVariants as place
use Rattle.part_keys.specs.declared.key_places.PartPlace.{PartPlace}

no-zero : (i : ℕ) → (suc i == 0) ≡ false
no-zero i = false_from_ne_true (suc i == 0) (λ is. not-zero (eqb-true (suc i) 0 is))
  where
    not-zero : suc i ≡ 0 → ⊥
    not-zero is = omega (arith, is)

module _ (heap : HeapMap) (lines : List ℕ) where
  abbrev cells : List Cell
  cells = heap.cells

  -- what leads where in the heap
  abbrev s : SkeletonMap
  s = skeleton_of heap lines

  -- ---- an element of a tuple of keys

  -- the place of an element with a number in the keys, if it is there
  abbrev element_place : ℕ → ℕ → Bool → KeyPlace
  element_place k i is = if is then place.At k i else place.Unknown

  tuple-by : (k i : ℕ) (es : List Element) (b : Bool) → form_at cells k ≡ Some (Tuple es) → nat_lt i (length (places_of cells (Some (Tuple es)))) ≡ b → place_shape cells (element_place k i b) ≡ shape_among cells es i
  tuple-by k i es true is size = ap (λ o. shape_among cells (listed o) i) is
  tuple-by k i es false is size =
      let many : length es ≤ i = omega (arith, ltb-false i (length (places_of cells (Some (Tuple es)))) size, length-map es (λ e. cell_in (target cells e))) in
      sym (ap (λ o. option_map_or (element_shape cells) o (codes "?")) (slice_get_past es i many))

  tuple-key : (k i : ℕ) (o : Option HeapForm) → form_at cells k ≡ o
      → place_shape cells (element_place k i (is_tuple_kind (option_map kind_of o) && nat_lt i (length (places_of cells o)))) ≡ shape_among cells (tuple_elements o) i
  tuple-key k i None is = refl
  tuple-key k i (Some (Tuple es)) is = tuple-by k i es (nat_lt i (length (places_of cells (Some (Tuple es))))) is refl
  tuple-key k i (Some form) is = refl

  reference-key : (address i : ℕ) (o : Option ℕ) → place_shape cells (key_of s (cell_in (target_at address o)) i) ≡ shape_among cells (option_map_or (λ n. tuple_elements (form_at cells n)) o []) i
  reference-key address i None = refl
  reference-key address i (Some k) =
      ap₂ (λ kind places. place_shape cells (element_place k i (is_tuple_kind kind && nat_lt i (length places)))) (kind-in cells k) (places-of cells k)
      ∙ tuple-key k i (form_at cells k) refl

  key-is : (keys : Element) (i : ℕ) → place_shape cells (key_of s (cell_in (target cells keys)) i) ≡ shape_among cells (keys_at cells keys) i
  key-is (Ref address) i = reference-key address i (number_at cells address)
  key-is e i = refl

  value-at : (keys : Element) (at : ℕ) → place_shape cells (if at == 0 then place.NoKey else key_of s (cell_in (target cells keys)) (at - 1)) ≡ value_label cells keys at
  value-at keys zero = refl
  value-at keys (suc i) =
      let back : suc i - 1 ≡ i = omega arith in
      ap₂ (λ b k. place_shape cells (if b then place.NoKey else key_of s (cell_in (target cells keys)) k)) (no-zero i) back ∙ key-is keys i

  -- ---- a pair

  pair-by : (part : ℕ) (o : Option HeapForm) → form_at cells part ≡ o → place_shape cells (if is_list_kind (option_map kind_of o) then place.At part 0 else place.NoKey) ≡ pair_label cells o
  pair-by part None is = refl
  pair-by part (Some (Cons head tail)) is = ap (λ o. shape_among cells (listed o) 0) is
  pair-by part (Some form) is = refl

  pair-is : (part : ℕ) → place_shape cells (pair_key s part) ≡ pair_label cells (form_at cells part)
  pair-is part =
      ap (λ kind. place_shape cells (if is_list_kind kind then place.At part 0 else place.NoKey)) (kind-in cells part) ∙ pair-by part (form_at cells part) refl

  -- ---- any part

  label-by : (o : Option HeapForm) (p : PartPlace) → places_at s.leads p.cell ≡ places_of cells o → place_shape cells (key_by (option_map kind_of o) s p) ≡ label_in cells o p.at p.part
  label-by None p places = refl
  label-by (Some (Flat keys values)) p places =
      ap (λ l. place_shape cells (if p.at == 0 then place.NoKey else key_of s (first_lead l) (p.at - 1))) places ∙ value-at keys p.at
  label-by (Some (Hash size children)) p places = pair-is p.part
  label-by (Some (Node children)) p places = pair-is p.part
  label-by (Some form) p places = refl

  -- the shape at the place of a part's key is the label of the part
  pub label-is : (p : PartPlace) → place_shape cells (key_place s p) ≡ key_label cells p
  label-is p = ap (λ kind. place_shape cells (key_by kind s p)) (kind-in cells p.cell) ∙ label-by (form_at cells p.cell) p (places-of cells p.cell)

-- the shapes of the keys of parts are their labels
pub labels-are : (dump : List ℕ) (index : Contents) (pid : List ℕ) (s : SkeletonMap) (parts : List PartPlace) → s ≡ skeleton_for dump index pid
    → map (place_shape (cells_for dump index pid)) (map (key_place s) parts) ≡ map (key_label (cells_for dump index pid)) parts
labels-are dump index pid s parts is = ap (λ k. map (place_shape (cells_for dump index pid)) (map (key_place k) parts)) is ∙ each parts
  where
    each : (parts : List PartPlace) → map (place_shape (cells_for dump index pid)) (map (key_place (skeleton_for dump index pid)) parts) ≡ map (key_label (cells_for dump index pid)) parts
    each [] = refl
    each (p ∷ parts) =
        let sections = sections_in index in
        let heap = heap_in dump index (heap_section pid sections) (literals_section sections) in
        let lines = lines_in dump (heap_section pid sections) (literals_section sections) in
        ap₂ (λ a b. a ∷ b) (label-is heap lines p) (each parts)
