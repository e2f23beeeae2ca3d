-- Parts whose labels are keys.
use Rattle.std.proofs.Common.{◌≡◌, ℕ, zero, suc, ◌+◌, ◌<◌, List, [], ◌∷◌, ◌++◌, length, map, take, Option, None, Some, refl, sym, ◌∙◌, ap, ap₂, subst, append_assoc, arith, length-append}
use Rattle.std.specs.Prelude.{All, option_map, slice_get, slice_index_or}
use Rattle.std.specs.List.{enumerate_from}
use Rattle.std.proofs.lemmas.List.{get_or-map, length-map, map-append, take-map}
use Rattle.std.proofs.lemmas.Option.{get_or_from_slice_get, none-some, same_Some, slice_get-map, slice_get_within}
use Rattle.dump_io.specs.Laws.Lists.{take-at}
use Rattle.std.proofs.lemmas.List.Elements.{All-head, All-tail}
use Rattle.cell_parts.specs.Parts.{ArePartsOf, CellPart, CellParts, PartElement, parts_made}
use Rattle.heap_graph.specs.Binaries.{binaries_among}
use Rattle.heap_cells.specs.Cells.{Cell}
use Rattle.dump_sections.specs.Index.{Contents}
use Rattle.heap_skeleton.specs.Skeletons.{SkeletonMap, skeleton_for}
use Rattle.heap_weights.specs.Parts.{holder_of}
use Rattle.heap_weights.specs.Shares.{weights_from}
use Rattle.heap_weights.specs.declared.shares.Shares.{Shares}
use Rattle.heap_weights.specs.declared.shares.Weight.{Weight}
use Rattle.tuple_fronts.specs.Fronts.{cells_for}
use Rattle.part_keys.specs.KeyPlaces.{key_place}
use Rattle.part_keys.specs.Keys.{key_label, place_shape}
use Rattle.part_keys.specs.Laws.Keys.{labels-are}
use Rattle.part_weights.specs.Weights.{first_parts, keyed, row_of, rows_of, weighing, with_key}
use Rattle.part_weights.specs.Held.{sorted_parts}
use Rattle.part_weights.specs.Held.{held_place, no_part, row_at, rows_at, under_key}
use Rattle.part_weights.specs.Inner.Shown.{AreParts, labelled_row, labelled_rows, weighing_with}
use Rattle.part_weights.specs.declared.held_parts.HeldPart.{HeldPart}
use Rattle.part_weights.specs.Laws.Keyed.{parts-keyed}
use Rattle.part_weights.specs.Laws.Rows.{rows-sorted}

module _ (cells : List Cell) (cell : ℕ) where
  abbrev under : CellPart → CellPart
  under part = under_key cells cell part

  same-cells : (ps : List CellPart) → map (λ (p : CellPart). p.cell) (map under ps) ≡ map (λ (p : CellPart). p.cell) ps
  same-cells [] = refl
  same-cells (p ∷ ps) = ap (λ l. p.cell ∷ l) (same-cells ps)

  -- ---- the rows

  abbrev text_of : List CellPart → HeldPart → List ℕ
  text_of parts held = key_label cells (held_place cell parts held)

  at-front : (front rest : List (List ℕ)) (text : List ℕ) → slice_index_or (front ++ text ∷ rest) (length front) [] ≡ text
  at-front [] rest text = refl
  at-front (x ∷ front) rest text = at-front front rest text

  rows-behind : (heap : SkeletonMap) (parts : List CellPart) (front : List (List ℕ)) (held : List HeldPart) → All (λ h. h.part < length parts) held
      → map (labelled_row heap parts (Some (front ++ map (text_of parts) held))) (enumerate_from (length front) held) ≡ rows_at heap (map under parts) held
  rows-behind heap parts front [] within = refl
  rows-behind heap parts front (h ∷ held) within =
      let text = text_of parts h in
      let rest = map (text_of parts) held in
      let inside : h.part < length parts = All-head (λ h. h.part < length parts) h held within in
      let count : length (front ++ text ∷ []) ≡ length front + 1 = omega (arith, length-append front (text ∷ [])) in
      let row : labelled_row heap parts (Some (front ++ text ∷ rest)) (length front, h) ≡ row_at heap (map under parts) h =
      ap (λ l. record (row_at heap parts h) { label = l }) (at-front front rest text)
      ∙ sym (ap (λ p. row_of heap (p, h.weight)) (get_or-map under parts h.part no_part no_part inside)) in
      ap₂ (λ a b. a ∷ b) row
      (ap (λ l. map (labelled_row heap parts (Some l)) (enumerate_from (length front + 1) held)) (sym (append_assoc front (text ∷ []) rest))
      ∙ ap (λ n. map (labelled_row heap parts (Some ((front ++ text ∷ []) ++ rest))) (enumerate_from n held)) (sym count)
      ∙ rows-behind heap parts (front ++ text ∷ []) held (All-tail (λ h. h.part < length parts) h held within))

  -- ---- what is kept is what the definition says

  pub keyed-kept : (heap : SkeletonMap) (parts : CellParts) (shares : Shares) (held : List HeldPart) (texts : List (List ℕ)) (within : Option Weight) (most : ℕ) (elements : List PartElement)
      → ArePartsOf elements parts → AreParts heap parts.parts shares → length parts.parts ≡ length shares.alone.items → held ≡ take most (sorted_parts shares.alone.items) → All (λ h. h.part < length parts.parts) held
      → texts ≡ map (text_of parts.parts) held
      → weighing_with heap parts held (Some texts) within shares.shared shares.reached shares.own ≡ first_parts most (weighing heap within (keyed cells cell elements))
  keyed-kept heap parts shares held texts within most elements of are size held_is inside texts_are =
      let ps = parts.parts in
      let qs = map under ps in
      let alone = shares.alone.items in
      let binaries = binaries_among heap.kinds in
      let holders = holder_of heap.leads (map (λ (p : CellPart). p.cell) ps) in
      let made : parts_made (keyed cells cell elements) ≡ qs = parts-keyed cells cell elements ∙ ap (map under) (sym of.parts) in
      let count : length qs ≡ length ps = length-map ps under in
      let alone_is : alone ≡ weights_from 0 heap.words binaries holders heap.own (length ps) =
      are.alone ∙ ap (weights_from 0 heap.words binaries holders heap.own) (length-map ps (λ (p : CellPart). p.cell)) in
      let rows : labelled_rows heap ps (Some texts) held ≡ take most (rows_of heap qs (weights_from 0 heap.words binaries holders heap.own (length qs))) =
      ap (λ l. labelled_rows heap ps (Some l) held) texts_are
      ∙ rows-behind heap ps [] held inside
      ∙ ap (rows_at heap qs) held_is
      ∙ sym (take-map (row_at heap qs) most (sorted_parts alone))
      ∙ ap (take most) (rows-sorted heap qs alone (count ∙ size))
      ∙ ap (λ l. take most (rows_of heap qs l)) (alone_is ∙ ap (weights_from 0 heap.words binaries holders heap.own) (sym count)) in
      let total : length (keyed cells cell elements) ≡ length elements = length-map elements (with_key cells cell) in
      rw (rows, are.shared, are.reached, are.own, of.count, made, same-cells ps, total, count) refl

-- ---- rows with the labels of their parts

pub plain-rows : (heap : SkeletonMap) (parts : List CellPart) (n : ℕ) (held : List HeldPart) → map (labelled_row heap parts None) (enumerate_from n held) ≡ rows_at heap parts held
plain-rows heap parts n [] = refl
plain-rows heap parts n (h ∷ held) = ap (λ l. row_at heap parts h ∷ l) (plain-rows heap parts (n + 1) held)

-- ---- the labels of the rows

map-both : {A B C : Type 0} (f : B → C) (g : A → B) (xs : List A) → map f (map g xs) ≡ map (λ x. f (g x)) xs
map-both f g [] = refl
map-both f g (x ∷ xs) = ap (λ l. f (g x) ∷ l) (map-both f g xs)

-- the shapes of the keys under which the parts of rows stand
pub texts-are : (dump : List ℕ) (index : Contents) (pid : List ℕ) (s : SkeletonMap) (parts : List CellPart) (cell : ℕ) (held : List HeldPart) → s ≡ skeleton_for dump index pid
    → map (place_shape (cells_for dump index pid)) (map (λ h. key_place s (held_place cell parts h)) held) ≡ map (λ h. key_label (cells_for dump index pid) (held_place cell parts h)) held
texts-are dump index pid s parts cell held is =
    ap (map (place_shape (cells_for dump index pid))) (sym (map-both (key_place s) (held_place cell parts) held))
    ∙ labels-are dump index pid s (map (held_place cell parts) held) is
    ∙ map-both (key_label (cells_for dump index pid)) (held_place cell parts) held

-- ---- one row

enumerated : {A : Type 0} (n : ℕ) (xs : List A) (i : ℕ) (x : A) → slice_get xs i ≡ Some x → slice_get (enumerate_from n xs) i ≡ Some (n + i, x)
enumerated n [] i x is = absurd (none-some x is)
enumerated n (y ∷ xs) zero x is = ap₂ (λ k z. Some (k, z)) (let same : n ≡ n + 0 = omega arith in same) (same_Some y x is)
enumerated n (y ∷ xs) (suc i) x is = enumerated (n + 1) xs i x is ∙ ap (λ k. Some (k, x)) (let same : n + 1 + i ≡ n + suc i = omega arith in same)

-- the row of the part at a place
pub row-there : (heap : SkeletonMap) (parts : List CellPart) (labels : Option (List (List ℕ))) (held : List HeldPart) (i : ℕ) (h : HeldPart) → slice_get held i ≡ Some h
    → slice_get (labelled_rows heap parts labels held) i ≡ Some (labelled_row heap parts labels (i, h))
row-there heap parts labels held i h is =
    let there : slice_get (enumerate_from 0 held) i ≡ Some (i, h) = enumerated 0 held i h is ∙ ap (λ k. Some (k, h)) (let same : 0 + i ≡ i = omega arith in same) in
    slice_get-map (labelled_row heap parts labels) (enumerate_from 0 held) i ∙ ap (option_map (labelled_row heap parts labels)) there

enumerated-count : {A : Type 0} (n : ℕ) (xs : List A) → length (enumerate_from n xs) ≡ length xs
enumerated-count n [] = refl
enumerated-count n (x ∷ xs) = ap suc (enumerated-count (n + 1) xs)

-- how many rows there are
pub rows-count : (heap : SkeletonMap) (parts : List CellPart) (labels : Option (List (List ℕ))) (held : List HeldPart) → length (labelled_rows heap parts labels held) ≡ length held
rows-count heap parts labels held = length-map (enumerate_from 0 held) (labelled_row heap parts labels) ∙ enumerated-count 0 held

pub held-within : (n : ℕ) (held : List HeldPart) (i : ℕ) (h : HeldPart) → All (λ h. h.part < n) held → slice_get held i ≡ Some h → h.part < n
held-within n held i h all is = subst (λ (x : HeldPart). x.part < n) (get_or_from_slice_get held i h h is) (all i h (slice_get_within held i h is))

-- one more image
pub map-next : {A B : Type 0} (f : A → B) (xs : List A) (i : ℕ) (x : A) (before after : List B) (y : B) → slice_get xs i ≡ Some x → before ≡ map f (take i xs) → after ≡ before ++ y ∷ [] → y ≡ f x
    → after ≡ map f (take (i + 1) xs)
map-next f xs i x before after y at before_is after_is is =
    after_is ∙ ap₂ (λ l z. l ++ z ∷ []) before_is is ∙ sym (map-append f (take i xs) (x ∷ [])) ∙ ap (map f) (sym (take-at xs i x at))
