-- Levels with their texts are those of the definition.
use Rattle.std.proofs.Common.{◌≡◌, ℕ, ◌+◌, ◌==◌, List, [], ◌∷◌, ◌++◌, length, map, take, Option, None, Some, refl, sym, ◌∙◌, ap, ap₂, append_assoc, arith, length-append}
use Rattle.std.specs.Prelude.{slice_index_or}
use Rattle.std.specs.List.{position, zip}
use Rattle.std.specs.Option.{option_and_then, option_map_or}
use Rattle.std.proofs.lemmas.List.{length-map, map-append}
use Rattle.cell_parts.specs.Elements.{cell_elements}
use Rattle.cell_parts.specs.Parts.{CellPart, parts_made}
use Rattle.dump_sections.specs.Index.{Contents}
use Rattle.heap_cells.specs.Cells.{Cell}
use Rattle.heap_cells.specs.HeapMap.{form_at}
use Rattle.heap_skeleton.specs.Skeletons.{skeleton_for}
use Rattle.heap_weights.specs.declared.shares.Weight.{Weight}
use Rattle.part_keys.specs.KeyPlaces.{key_place}
use Rattle.part_keys.specs.Keys.{key_label, place_shape}
use Rattle.part_keys.specs.Laws.Keys.{labels-are}
use Rattle.part_keys.specs.Laws.PartShapes.{shapes-are}
use Rattle.part_keys.specs.PartShapes.{pair_shape, part_shape, shaped_part}
use Rattle.part_keys.specs.declared.key_places.PartPlace.{PartPlace}
use Rattle.part_weights.specs.Held.{under_key, with_labels}
use Rattle.part_weights.specs.Weights.{Row, keyed}
use Rattle.part_weights.specs.Laws.Keyed.{parts-keyed}
use Rattle.text_groups.specs.Groups.{Item}
use Rattle.heap_levels.specs.Levels.{HeavyLevels, Level, Process, Shape, first_kinds, first_rows, heavy_levels, last_shapes, level_of, level_zero, levels_below, process_of, shape_item, shape_items, shapes_of, subject_form}
use Rattle.heap_levels.specs.Inner.Plain.{LevelMap, PartsMap, all_keys, alone_of, keyed_with, last_parts, level_labelled, levels_finished, levels_labelled, levels_with, rows_labelled, subject_cell, text_item, text_shapes}
use Rattle.heap_levels.specs.declared.levels.Subject.{Subject}
use Rattle.heap_levels.specs.declared.levels.Subject.TheVariants as of
use Rattle.heap_levels.proofs.LabelFacts.{all-shown, below-subjects, kept, keys-count, levels-below, plain, same-alone, subjects_below, with_shapes}

-- ---- labels, level after level

at-front : (front rest : List (List ℕ)) (text : List ℕ) → slice_index_or (front ++ text ∷ rest) (length front) [] ≡ text
at-front [] rest text = refl
at-front (x ∷ front) rest text = at-front front rest text

-- rows take the labels that are theirs
rows-from : (front mine rest : List (List ℕ)) (rows : List Row) → length mine ≡ length rows → rows_labelled (front ++ (mine ++ rest)) (length front) rows ≡ with_labels mine rows
rows-from front [] rest [] same = refl
rows-from front [] rest (row ∷ rows) same = absurd (omega (arith, same))
rows-from front (m ∷ mine) rest [] same = absurd (omega (arith, same))
rows-from front (m ∷ mine) rest (row ∷ rows) same =
    let all = front ++ (m ∷ (mine ++ rest)) in
    let next : length (front ++ m ∷ []) ≡ length front + 1 = omega (arith, length-append front (m ∷ [])) in
    ap₂ (λ (text : List ℕ) (l : List Row). (let r : Row = record row { label = text } in r) ∷ l) (at-front front (mine ++ rest) m)
    (ap₂ (λ l n. rows_labelled l n rows) (sym (append_assoc front (m ∷ []) (mine ++ rest))) (sym next) ∙ rows-from (front ++ m ∷ []) mine rest rows (omega (arith, same)))

level-from : (most : ℕ) (p : Process) (front rest : List (List ℕ)) (s : Subject)
    → level_labelled (front ++ (map (place_shape p.cells) (kept most p s).keys ++ rest)) (length front) (kept most p s).level ≡ with_shapes p.cells (kept most p s)
level-from most p front rest (of.OfKind kind) = refl
level-from most p front rest (of.OfCell address) =
    let k = kept most p (of.OfCell address) in
    ap (λ (rows : List Row). let l : Level = record k.level { rows = rows } in l)
    (rows-from front (map (place_shape p.cells) k.keys) rest k.level.rows (length-map k.keys (place_shape p.cells) ∙ keys-count most p address))

levels-from : (most : ℕ) (p : Process) (front : List (List ℕ)) (ss : List Subject)
    → levels_labelled (front ++ map (place_shape p.cells) (all_keys (map (kept most p) ss))) (length front) (map (kept most p) ss) ≡ map (with_shapes p.cells) (map (kept most p) ss)
levels-from most p front [] = refl
levels-from most p front (s ∷ ss) =
    let k = kept most p s in
    let mine = map (place_shape p.cells) k.keys in
    let rest = map (place_shape p.cells) (all_keys (map (kept most p) ss)) in
    let next : length (front ++ mine) ≡ length front + length k.keys = omega (arith, length-append front mine, length-map k.keys (place_shape p.cells)) in
    ap (λ l. levels_labelled (front ++ l) (length front) (map (kept most p) (s ∷ ss))) (map-append (place_shape p.cells) k.keys (all_keys (map (kept most p) ss)))
    ∙ ap₂ (λ (a : Level) (l : List Level). a ∷ l) (level-from most p front rest s)
    (ap₂ (λ l n. levels_labelled l n (map (kept most p) ss)) (sym (append_assoc front mine rest)) (sym next) ∙ levels-from most p (front ++ mine) ss)

-- ---- the shapes of the parts of the last level

items-under : (p : Process) (s : Subject) (cell : ℕ) (parts : List CellPart) (alone : List Weight) → map (shape_item p s) (zip (map (under_key p.cells cell) parts) alone) ≡ map (shape_item p s) (zip parts alone)
items-under p s cell [] alone = refl
items-under p s cell (part ∷ parts) [] = refl
items-under p s cell (part ∷ parts) (w ∷ alone) = ap (λ l. shape_item p s (part, w) ∷ l) (items-under p s cell parts alone)

-- these parts, as they are grouped
abbrev items_of : Process → Subject → List CellPart → List Item
items_of p s parts = map (shape_item p s) (zip parts (alone_of p.heap parts))

-- what is kept of the parts, with their shapes
abbrev texts_of : List Cell → PartsMap → List Shape
texts_of cells parts = text_shapes (map (part_shape cells) parts.shaped) parts.words

form-is : (p : Process) (s : Subject) → option_and_then (form_at p.cells) (subject_cell p.heap s) ≡ subject_form p s
form-is p (of.OfKind kind) = refl
form-is p (of.OfCell address) = refl

module _ (p : Process) (shape : (whole : Option ℕ) (part : ℕ) → part_shape p.cells (shaped_part p.heap whole part) ≡ pair_shape p.cells (option_and_then (form_at p.cells) whole) (form_at p.cells part) part) where
  items-zip : (s : Subject) (parts : List CellPart) (alone : List Weight) → map (shape_item p s) (zip parts alone)
      ≡ map text_item (zip (map (part_shape p.cells) (map (λ part. shaped_part p.heap (subject_cell p.heap s) part.cell) parts)) (map (λ weight. weight.words) alone))
  items-zip s [] alone = refl
  items-zip s (part ∷ parts) [] = refl
  items-zip s (part ∷ parts) (w ∷ alone) =
      ap₂ (λ t l. text_item (t, w.words) ∷ l)
      (sym (shape (subject_cell p.heap s) part.cell ∙ ap (λ o. pair_shape p.cells o (form_at p.cells part.cell) part.cell) (form-is p s))) (items-zip s parts alone)

  plain-items : (s : Subject) → shape_items p s ≡ items_of p s (parts_made (plain p s))
  plain-items (of.OfKind kind) = refl
  plain-items (of.OfCell address) = by (position (λ a. a == address) p.heap.addresses)
    where
      by : (found : Option ℕ) → items_of p (of.OfCell address) (parts_made (option_map_or (λ n. keyed p.cells n (cell_elements p.heap.kinds p.heap.leads n)) found []))
          ≡ items_of p (of.OfCell address) (parts_made (option_map_or (cell_elements p.heap.kinds p.heap.leads) found []))
      by None = refl
      by (Some n) =
          let es = cell_elements p.heap.kinds p.heap.leads n in
          let ps = parts_made es in
          ap (items_of p (of.OfCell address)) (parts-keyed p.cells n es)
          ∙ ap (λ l. map (shape_item p (of.OfCell address)) (zip (map (under_key p.cells n) ps) l)) (same-alone p n ps)
          ∙ items-under p (of.OfCell address) n ps (alone_of p.heap ps)

  last-shown : (ss : List Subject) → last_shapes p (map (level_of p) ss) ≡ texts_of p.cells (last_parts p.heap (map (λ s. (s, plain p s)) ss))
  last-shown [] = refl
  last-shown (s ∷ []) = ap shapes_of (plain-items s ∙ items-zip s (parts_made (plain p s)) (alone_of p.heap (parts_made (plain p s))))
  last-shown (s ∷ t ∷ ss) = last-shown (t ∷ ss)

-- ---- all of it

map-both : {A B C : Type 0} (f : B → C) (g : A → B) (xs : List A) → map f (map g xs) ≡ map (λ x. f (g x)) xs
map-both f g [] = refl
map-both f g (x ∷ xs) = ap (λ l. f (g x) ∷ l) (map-both f g xs)

module _ (p : Process) (labels : (place : PartPlace) → place_shape p.cells (key_place p.heap place) ≡ key_label p.cells place)
    (shape : (whole : Option ℕ) (part : ℕ) → part_shape p.cells (shaped_part p.heap whole part) ≡ pair_shape p.cells (option_and_then (form_at p.cells) whole) (form_at p.cells part) part) where
  abbrev found : ℕ → LevelMap
  found most = levels_with most p.heap p.roots

  kept-below : (most : ℕ) → (found most).below ≡ map (kept most p) (subjects_below p (level_zero p))
  kept-below most =
      ap (map (keyed_with most p.heap)) (below-subjects p (level_zero p)) ∙ map-both (keyed_with most p.heap) (λ s. (s, plain p s)) (subjects_below p (level_zero p))

  below-finished : (most : ℕ) → levels_labelled (map (place_shape p.cells) (all_keys (found most).below)) 0 (found most).below ≡ map (first_rows most) (levels_below p (level_zero p))
  below-finished most =
      let ss = subjects_below p (level_zero p) in
      ap (λ l. levels_labelled (map (place_shape p.cells) (all_keys l)) 0 l) (kept-below most)
      ∙ levels-from most p [] ss
      ∙ sym (all-shown p labels most ss)
      ∙ ap (map (first_rows most)) (sym (levels-below p labels (level_zero p)))

  shapes-finished : (most : ℕ) → texts_of p.cells (found most).last ≡ last_shapes p (levels_below p (level_zero p))
  shapes-finished most =
      let ss = subjects_below p (level_zero p) in
      ap (λ l. texts_of p.cells (last_parts p.heap l)) (below-subjects p (level_zero p))
      ∙ sym (last-shown p shape ss)
      ∙ ap (last_shapes p) (sym (levels-below p labels (level_zero p)))

  finished : (most : ℕ) → levels_finished most (found most) (map (place_shape p.cells) (all_keys (found most).below)) (map (part_shape p.cells) (found most).last.shaped) ≡ heavy_levels most p
  finished most =
      ap₂ (λ (below : List Level) (shapes : List Shape). let h : HeavyLevels = record { zero = first_kinds most (level_zero p); below = below; shapes = take most shapes } in h)
      (below-finished most) (shapes-finished most)

-- the levels of a process, with the texts that its heap has
pub levels-are : (most : ℕ) (dump : List ℕ) (index : Contents) (pid : List ℕ) → (let p = process_of dump index pid in let found = levels_with most p.heap p.roots in
    levels_finished most found (map (place_shape p.cells) (all_keys found.below)) (map (part_shape p.cells) found.last.shaped) ≡ heavy_levels most p)
levels-are most dump index pid =
    let heap = skeleton_for dump index pid in
    finished (process_of dump index pid) (λ place. ap (λ l. slice_index_or l 0 []) (labels-are dump index pid heap (place ∷ []) refl))
    (λ whole part. ap (λ l. slice_index_or l 0 []) (shapes-are dump index pid heap whole (part ∷ []) refl)) most
