-- Levels without labels, and those of the definition.
use Rattle.std.proofs.Common.{◌≡◌, ℕ, zero, suc, ◌<◌, ◌==◌, Bool, true, false, if◌then◌else◌, nat_lt, List, [], ◌∷◌, length, map, take, Option, None, Some, refl, sym, ◌∙◌, ap, ap₂, subst}
use Rattle.std.specs.Prelude.{All}
use Rattle.std.specs.List.{position}
use Rattle.std.specs.Option.{option_map_or}
use Rattle.std.proofs.Math.Seq.{take-nil}
use Rattle.std.proofs.lemmas.List.{get_or-map, length-map, take-map}
use Rattle.std.proofs.lemmas.List.Elements.{All-cons, All-head, All-tail, All-take}
use Rattle.cell_parts.specs.Elements.{cell_elements}
use Rattle.cell_parts.specs.Parts.{CellPart, PartElement, parts_made}
use Rattle.heap_cells.specs.Cells.{Cell}
use Rattle.heap_graph.specs.Binaries.{binaries_among}
use Rattle.heap_weights.specs.Holders.{is_held}
use Rattle.heap_weights.specs.Parts.{holder_of}
use Rattle.heap_weights.specs.Shares.{weight_below, weight_of, weights_from}
use Rattle.heap_weights.specs.declared.holders.Holder.TheVariants.{Several}
use Rattle.part_keys.specs.KeyPlaces.{key_place}
use Rattle.part_keys.specs.Keys.{key_label, place_shape}
use Rattle.part_keys.specs.declared.key_places.PartPlace.{PartPlace}
use Rattle.part_weights.specs.Held.{held_parts, held_place, no_part, row_at, rows_at, sorted_parts, under_key, with_labels}
use Rattle.part_weights.specs.Weights.{Row, keyed, row_of, rows_of, weighing}
use Rattle.part_weights.specs.Laws.Keyed.{parts-keyed, rows-keyed}
use Rattle.part_weights.specs.Laws.Rows.{held-numbered, rows-sorted}
use Rattle.part_weights.specs.declared.held_parts.HeldPart.{HeldPart}
use Rattle.root_views.specs.declared.kinds.RootKind.{RootKind}
use Rattle.text_groups.specs.Sorting.{most_first, put_row}
use Rattle.heap_levels.specs.Levels.{KindWeighing, Level, Process, first_rows, heaviest, heaviest_kind, level_of, levels_below, levels_from}
use Rattle.heap_levels.specs.Inner.Plain.{Keyed, alone_of, below_kinds, descent, elements_below, keyed_with, level_with}
use Rattle.heap_levels.specs.declared.levels.Subject.{Subject}
use Rattle.heap_levels.specs.declared.levels.Subject.TheVariants as of
use Rattle.heap_levels.proofs.LevelFacts.{length-weights}

-- ---- the parts that are shown

-- what holds of all rows holds of them in order
put-all : {X : Type 0} (P : X → Type 0) (size : X → ℕ) (x : X) (rows : List X) → P x → All P rows → All P (put_row size x rows)
put-all P size x [] here all = All-cons P x [] here all
put-all P size x (y ∷ rows) here all = by (nat_lt (size x) (size y)) (put-all P size x rows here (All-tail P y rows all))
  where
    by : (b : Bool) → All P (put_row size x rows) → All P (if b then y ∷ put_row size x rows else x ∷ (y ∷ rows))
    by true later = All-cons P y (put_row size x rows) (All-head P y rows all) later
    by false later = All-cons P x (y ∷ rows) here all

most-all : {X : Type 0} (P : X → Type 0) (size : X → ℕ) (rows : List X) → All P rows → All P (most_first size rows)
most-all P size [] all = all
most-all P size (x ∷ rows) all = put-all P size x (most_first size rows) (All-head P x rows all) (most-all P size rows (All-tail P x rows all))

count-alone : (p : Process) (parts : List CellPart) → length (alone_of p.heap parts) ≡ length parts
count-alone p parts =
    length-weights 0 p.heap.words (binaries_among p.heap.kinds) (holder_of p.heap.leads (map (λ (part : CellPart). part.cell) parts)) p.heap.own (length parts)

-- each part that holds a cell is one of them
sorted-numbered : (p : Process) (parts : List CellPart) → All (λ h. h.part < length parts) (sorted_parts (alone_of p.heap parts))
sorted-numbered p parts =
    let alone = alone_of p.heap parts in
    subst (λ n. All (λ h. h.part < n) (sorted_parts alone)) (count-alone p parts)
    (most-all (λ h. h.part < length alone) (λ held. held.weight.words) (held_parts alone) (held-numbered alone))

-- ---- the parts of a cell with their keys

module _ (p : Process) (cell : ℕ) where
  same-cells : (parts : List CellPart) → map (λ (part : CellPart). part.cell) (map (under_key p.cells cell) parts) ≡ map (λ (part : CellPart). part.cell) parts
  same-cells [] = refl
  same-cells (part ∷ parts) = ap (λ l. part.cell ∷ l) (same-cells parts)

  -- keys change nothing of what each part alone holds
  pub same-alone : (parts : List CellPart) → alone_of p.heap (map (under_key p.cells cell) parts) ≡ alone_of p.heap parts
  same-alone parts =
      ap₂ (λ cells n. weights_from 0 p.heap.words (binaries_among p.heap.kinds) (holder_of p.heap.leads cells) p.heap.own n) (same-cells parts) (length-map parts (under_key p.cells cell))

  -- the rows of parts with their keys
  rows-under : (parts : List CellPart) → rows_of p.heap (map (under_key p.cells cell) parts) (alone_of p.heap (map (under_key p.cells cell) parts))
      ≡ rows_at p.heap (map (under_key p.cells cell) parts) (sorted_parts (alone_of p.heap parts))
  rows-under parts =
      let qs = map (under_key p.cells cell) parts in
      ap (rows_of p.heap qs) (same-alone parts)
      ∙ sym (rows-sorted p.heap qs (alone_of p.heap parts) (length-map parts (under_key p.cells cell) ∙ sym (count-alone p parts)))

  rows-plain : (parts : List CellPart) → rows_of p.heap parts (alone_of p.heap parts) ≡ rows_at p.heap parts (sorted_parts (alone_of p.heap parts))
  rows-plain parts = sym (rows-sorted p.heap parts (alone_of p.heap parts) (sym (count-alone p parts)))

  -- the first rows with their keys
  pub rows-shown : (most : ℕ) (parts : List CellPart) → take most (rows_of p.heap (map (under_key p.cells cell) parts) (alone_of p.heap (map (under_key p.cells cell) parts)))
      ≡ with_labels (map (λ h. key_label p.cells (held_place cell parts h)) (take most (sorted_parts (alone_of p.heap parts)))) (take most (rows_of p.heap parts (alone_of p.heap parts)))
  rows-shown most parts =
      let qs = map (under_key p.cells cell) parts in
      let sorted = sorted_parts (alone_of p.heap parts) in
      let labels = map (λ h. key_label p.cells (held_place cell parts h)) (take most sorted) in
      ap (take most) (rows-under parts)
      ∙ take-map (row_at p.heap qs) most sorted
      ∙ rows-keyed p.cells cell p.heap parts (take most sorted) (All-take (λ h. h.part < length parts) most sorted (sorted-numbered p parts))
      ∙ ap (with_labels labels) (sym (take-map (row_at p.heap parts) most sorted) ∙ ap (take most) (sym (rows-plain parts)))

  heaviest-under : (total : ℕ) (parts : List CellPart) (held : List HeldPart) → All (λ h. h.part < length parts) held
      → heaviest total (rows_at p.heap (map (under_key p.cells cell) parts) held) ≡ heaviest total (rows_at p.heap parts held)
  heaviest-under total parts [] within = refl
  heaviest-under total parts (h ∷ held) within =
      ap (λ (part : CellPart). heaviest total (row_of p.heap (part, h.weight) ∷ []))
      (get_or-map (under_key p.cells cell) parts h.part no_part no_part (All-head (λ h. h.part < length parts) h held within))

  -- keys don't change which part is followed
  pub heaviest-same : (total : ℕ) (parts : List CellPart) → heaviest total (rows_of p.heap (map (under_key p.cells cell) parts) (alone_of p.heap (map (under_key p.cells cell) parts)))
      ≡ heaviest total (rows_of p.heap parts (alone_of p.heap parts))
  heaviest-same total parts =
      ap (heaviest total) (rows-under parts) ∙ heaviest-under total parts (sorted_parts (alone_of p.heap parts)) (sorted-numbered p parts) ∙ ap (heaviest total) (sym (rows-plain parts))

-- ---- the levels of a process, by what is weighed on each

-- what is weighed, without keys
abbrev pub plain : Process → Subject → List PartElement
plain p (of.OfKind kind) = p.roots kind
plain p (of.OfCell address) = elements_below p.heap address

-- rows of a subject with these labels
abbrev pub labelled : Subject → List (List ℕ) → List Row → List Row
labelled (of.OfKind kind) labels rows = rows
labelled (of.OfCell address) labels rows = with_labels labels rows

-- a level with the shapes of its keys as labels
abbrev pub with_shapes : List Cell → Keyed → Level
with_shapes cells k = record k.level { rows = labelled k.level.subject (map (place_shape cells) k.keys) k.level.rows }

-- what is kept of a subject
abbrev pub kept : ℕ → Process → Subject → Keyed
kept most p s = keyed_with most p.heap (s, plain p s)

-- what is weighed on at most so many levels
abbrev pub subjects : ℕ → Process → ℕ → Subject → List Subject
subjects zero p total s = []
subjects (suc n) p total s =
    let level = level_with p.heap s (plain p s) in
    if nat_lt 0 level.parts then s ∷ option_map_or (λ address. subjects n p total (of.OfCell address)) (heaviest total level.rows) [] else []

-- what is weighed below level 0
abbrev pub subjects_below : Process → KindWeighing → List Subject
subjects_below p top = option_map_or (λ kind. subjects 19 p top.reached.words (of.OfKind kind)) (heaviest_kind top.reached.words top.rows) []

descent-subjects : (n : ℕ) (p : Process) (total : ℕ) (s : Subject) → descent n p.heap total s (plain p s) ≡ map (λ t. (t, plain p t)) (subjects n p total s)
descent-subjects zero p total s = refl
descent-subjects (suc n) p total s =
    by (nat_lt 0 (level_with p.heap s (plain p s)).parts) (heaviest total (level_with p.heap s (plain p s)).rows) (λ address. descent-subjects n p total (of.OfCell address))
  where
    by : (b : Bool) (o : Option ℕ) → ((address : ℕ) → descent n p.heap total (of.OfCell address) (elements_below p.heap address) ≡ map (λ t. (t, plain p t)) (subjects n p total (of.OfCell address)))
        → (if b then (s, plain p s) ∷ option_map_or (λ address. descent n p.heap total (of.OfCell address) (elements_below p.heap address)) o [] else [])
        ≡ map (λ t. (t, plain p t)) (if b then s ∷ option_map_or (λ address. subjects n p total (of.OfCell address)) o [] else [])
    by false o later = refl
    by true None later = refl
    by true (Some address) later = ap (λ l. (s, plain p s) ∷ l) (later address)

pub below-subjects : (p : Process) (top : KindWeighing) → below_kinds p.heap p.roots top ≡ map (λ t. (t, plain p t)) (subjects_below p top)
below-subjects p top = by (heaviest_kind top.reached.words top.rows)
  where
    by : (o : Option RootKind) → option_map_or (λ kind. descent 19 p.heap top.reached.words (of.OfKind kind) (p.roots kind)) o []
        ≡ map (λ t. (t, plain p t)) (option_map_or (λ kind. subjects 19 p top.reached.words (of.OfKind kind)) o [])
    by None = refl
    by (Some kind) = descent-subjects 19 p top.reached.words (of.OfKind kind)

-- ---- one level

module _ (p : Process) (labels : (place : PartPlace) → place_shape p.cells (key_place p.heap place) ≡ key_label p.cells place) where
  keys-labelled : (cell : ℕ) (parts : List CellPart) (held : List HeldPart)
      → map (place_shape p.cells) (map (λ h. key_place p.heap (held_place cell parts h)) held) ≡ map (λ h. key_label p.cells (held_place cell parts h)) held
  keys-labelled cell parts [] = refl
  keys-labelled cell parts (h ∷ held) = ap₂ (λ a l. a ∷ l) (labels (held_place cell parts h)) (keys-labelled cell parts held)

  -- a level of parts
  abbrev level_by : Subject → List Row → List ℕ → ℕ → Level
  level_by s rows cells n =
      let holders = holder_of p.heap.leads cells in
      let binaries = binaries_among p.heap.kinds in record {
        subject = s;
        rows = rows;
        shared = weight_of p.heap.words binaries holders Several p.heap.own;
        reached = weight_below p.heap.words binaries (λ k. is_held (holders k)) p.heap.own;
        parts = n;
      }

  abbrev level_made : ℕ → Subject → List CellPart → Level
  level_made most s parts = level_by s (take most (rows_of p.heap parts (alone_of p.heap parts))) (map (λ (part : CellPart). part.cell) parts) (length parts)

  cell-shown : (most address n : ℕ) (es : List PartElement) → level_made most (of.OfCell address) (parts_made (keyed p.cells n es))
      ≡ record (level_made most (of.OfCell address) (parts_made es)) {
        rows = with_labels (map (place_shape p.cells) (map (λ h. key_place p.heap (held_place n (parts_made es) h)) (take most (sorted_parts (alone_of p.heap (parts_made es))))))
            (take most (rows_of p.heap (parts_made es) (alone_of p.heap (parts_made es))));
      }
  cell-shown most address n es =
      let ps = parts_made es in
      let held = take most (sorted_parts (alone_of p.heap ps)) in
      let rows = with_labels (map (place_shape p.cells) (map (λ h. key_place p.heap (held_place n ps h)) held)) (take most (rows_of p.heap ps (alone_of p.heap ps))) in
      let qs = map (under_key p.cells n) ps in
      ap (level_made most (of.OfCell address)) (parts-keyed p.cells n es)
      ∙ ap (λ l. level_by (of.OfCell address) l (map (λ (part : CellPart). part.cell) qs) (length qs))
      (rows-shown p n most ps ∙ ap (λ l. with_labels l (take most (rows_of p.heap ps (alone_of p.heap ps)))) (sym (keys-labelled n ps held)))
      ∙ ap₂ (level_by (of.OfCell address) rows) (same-cells p n ps) (length-map ps (under_key p.cells n))

  -- a level as it is kept is that of the definition, once the shapes of its keys are its labels
  pub level-shown : (most : ℕ) (s : Subject) → first_rows most (level_of p s) ≡ with_shapes p.cells (kept most p s)
  level-shown most (of.OfKind kind) = refl
  level-shown most (of.OfCell address) = by (position (λ a. a == address) p.heap.addresses)
    where
      by : (found : Option ℕ) → level_made most (of.OfCell address) (parts_made (option_map_or (λ n. keyed p.cells n (cell_elements p.heap.kinds p.heap.leads n)) found []))
          ≡ record (level_made most (of.OfCell address) (parts_made (option_map_or (cell_elements p.heap.kinds p.heap.leads) found []))) {
            rows = with_labels (map (place_shape p.cells) (option_map_or (λ n. map (λ h. key_place p.heap (held_place n (parts_made (option_map_or (cell_elements p.heap.kinds p.heap.leads) found [])) h))
                (take most (sorted_parts (alone_of p.heap (parts_made (option_map_or (cell_elements p.heap.kinds p.heap.leads) found [])))))) found []))
                (take most (rows_of p.heap (parts_made (option_map_or (cell_elements p.heap.kinds p.heap.leads) found [])) (alone_of p.heap (parts_made (option_map_or (cell_elements p.heap.kinds p.heap.leads) found [])))));
          }
      by None = ap (λ l. level_by (of.OfCell address) l [] 0) (take-nil most ∙ sym (ap (with_labels []) (take-nil most)))
      by (Some n) = cell-shown most address n (cell_elements p.heap.kinds p.heap.leads n)

  next-same : (total : ℕ) (s : Subject) → heaviest total (level_of p s).rows ≡ heaviest total (level_with p.heap s (plain p s)).rows
  next-same total (of.OfKind kind) = refl
  next-same total (of.OfCell address) = by (position (λ a. a == address) p.heap.addresses)
    where
      by : (found : Option ℕ) → heaviest total (weighing p.heap None (option_map_or (λ n. keyed p.cells n (cell_elements p.heap.kinds p.heap.leads n)) found [])).rows
          ≡ heaviest total (weighing p.heap None (option_map_or (cell_elements p.heap.kinds p.heap.leads) found [])).rows
      by None = refl
      by (Some n) =
          let es = cell_elements p.heap.kinds p.heap.leads n in
          ap (λ parts. heaviest total (rows_of p.heap parts (alone_of p.heap parts))) (parts-keyed p.cells n es) ∙ heaviest-same p n total (parts_made es)

  -- ---- all of them

  levels-subjects : (n total : ℕ) (s : Subject) → levels_from n p total s ≡ map (level_of p) (subjects n p total s)
  levels-subjects zero total s = refl
  levels-subjects (suc n) total s =
      ap₂ (λ b o. if b then level_of p s ∷ option_map_or (λ address. levels_from n p total (of.OfCell address)) o [] else [])
      (ap (λ (l : Level). nat_lt 0 l.parts) (level-shown 0 s)) (next-same total s)
      ∙ by (nat_lt 0 (level_with p.heap s (plain p s)).parts) (heaviest total (level_with p.heap s (plain p s)).rows) (λ address. levels-subjects n total (of.OfCell address))
    where
      by : (b : Bool) (o : Option ℕ) → ((address : ℕ) → levels_from n p total (of.OfCell address) ≡ map (level_of p) (subjects n p total (of.OfCell address)))
          → (if b then level_of p s ∷ option_map_or (λ address. levels_from n p total (of.OfCell address)) o [] else [])
          ≡ map (level_of p) (if b then s ∷ option_map_or (λ address. subjects n p total (of.OfCell address)) o [] else [])
      by false o later = refl
      by true None later = refl
      by true (Some address) later = ap (λ l. level_of p s ∷ l) (later address)

  pub levels-below : (top : KindWeighing) → levels_below p top ≡ map (level_of p) (subjects_below p top)
  levels-below top = by (heaviest_kind top.reached.words top.rows)
    where
      by : (o : Option RootKind) → option_map_or (λ kind. levels_from 19 p top.reached.words (of.OfKind kind)) o []
          ≡ map (level_of p) (option_map_or (λ kind. subjects 19 p top.reached.words (of.OfKind kind)) o [])
      by None = refl
      by (Some kind) = levels-subjects 19 top.reached.words (of.OfKind kind)

  pub all-shown : (most : ℕ) (ss : List Subject) → map (first_rows most) (map (level_of p) ss) ≡ map (with_shapes p.cells) (map (kept most p) ss)
  all-shown most [] = refl
  all-shown most (s ∷ ss) = ap₂ (λ a l. a ∷ l) (level-shown most s) (all-shown most ss)

-- ---- rows and keys

-- a row of a part of a cell has a key
pub keys-count : (most : ℕ) (p : Process) (address : ℕ) → length (kept most p (of.OfCell address)).keys ≡ length (kept most p (of.OfCell address)).level.rows
keys-count most p address = by (position (λ a. a == address) p.heap.addresses)
  where
    by : (found : Option ℕ) → length (option_map_or (λ n. map (λ h. key_place p.heap (held_place n (parts_made (option_map_or (cell_elements p.heap.kinds p.heap.leads) found [])) h))
        (take most (sorted_parts (alone_of p.heap (parts_made (option_map_or (cell_elements p.heap.kinds p.heap.leads) found [])))))) found [])
        ≡ length (take most (rows_of p.heap (parts_made (option_map_or (cell_elements p.heap.kinds p.heap.leads) found [])) (alone_of p.heap (parts_made (option_map_or (cell_elements p.heap.kinds p.heap.leads) found [])))))
    by None = sym (ap length (take-nil most))
    by (Some n) =
        let ps = parts_made (cell_elements p.heap.kinds p.heap.leads n) in
        let sorted = sorted_parts (alone_of p.heap ps) in
        length-map (take most sorted) (λ h. key_place p.heap (held_place n ps h))
        ∙ sym (length-map (take most sorted) (row_at p.heap ps))
        ∙ ap length (sym (take-map (row_at p.heap ps) most sorted) ∙ ap (take most) (sym (rows-plain p n ps)))
