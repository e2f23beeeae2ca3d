-- Rows with their labels.
use Rattle.std.proofs.Common.{◌≡◌, ℕ, zero, suc, ◌+◌, ◌<◌, ◌≤◌, List, [], ◌∷◌, ◌++◌, length, map, take, Some, refl, sym, ◌∙◌, ap, ap₂, subst, arith, length-append}
use Rattle.std.specs.Prelude.{All, slice_get, slice_index_or}
use Rattle.std.proofs.lemmas.List.{length-take-le, map-append}
use Rattle.std.proofs.lemmas.Option.{get_or_from_slice_get, none-some, same_Some, slice_get_within}
use Rattle.dump_io.specs.Laws.Lists.{take-at}
use Rattle.part_weights.specs.declared.held_parts.HeldPart.{HeldPart}
use Rattle.heap_levels.specs.declared.level_rows.LevelRow.{LevelRow}
use Rattle.part_weights.specs.Weights.{Row}
use Rattle.heap_levels.specs.Levels.{Level}
use Rattle.heap_levels.specs.Inner.Descent.{shown_keyed, shown_row, shown_rows}
use Rattle.heap_levels.specs.Inner.Plain.{Keyed, all_keys, level_labelled, levels_labelled, rows_labelled}
use Rattle.heap_levels.specs.declared.levels.KeyedLevel.{KeyedLevel}

-- one more row
pub shown-push : (rows : List LevelRow) (labels : List (List ℕ)) (r : LevelRow) (label : List ℕ) → length labels ≡ length rows
    → shown_rows (rows ++ r ∷ []) (labels ++ label ∷ []) ≡ shown_rows rows labels ++ shown_row (r, label) ∷ []
shown-push [] [] r label same = refl
shown-push [] (l ∷ labels) r label same = absurd (omega (arith, same))
shown-push (x ∷ rows) [] r label same = absurd (omega (arith, same))
shown-push (x ∷ rows) (l ∷ labels) r label same = ap (λ tail. shown_row (x, l) ∷ tail) (shown-push rows labels r label (omega (arith, same)))

-- how many there are
pub shown-count : (rows : List LevelRow) (labels : List (List ℕ)) → length labels ≡ length rows → length (shown_rows rows labels) ≡ length rows
shown-count [] [] same = refl
shown-count [] (l ∷ labels) same = absurd (omega (arith, same))
shown-count (x ∷ rows) [] same = absurd (omega (arith, same))
shown-count (x ∷ rows) (l ∷ labels) same = ap suc (shown-count rows labels (omega (arith, same)))

-- the row at a place
pub shown-there : (rows : List LevelRow) (labels : List (List ℕ)) (i : ℕ) (r : LevelRow) (label : List ℕ) → slice_get rows i ≡ Some r → slice_get labels i ≡ Some label
    → slice_get (shown_rows rows labels) i ≡ Some (shown_row (r, label))
shown-there [] labels i r label is label_is = absurd (none-some r is)
shown-there (x ∷ rows) [] i r label is label_is = absurd (none-some label label_is)
shown-there (x ∷ rows) (l ∷ labels) zero r label is label_is = ap₂ (λ a b. Some (shown_row (a, b))) (same_Some x r is) (same_Some l label label_is)
shown-there (x ∷ rows) (l ∷ labels) (suc i) r label is label_is = shown-there rows labels i r label is label_is

pub held-within : (n : ℕ) (held : List HeldPart) (i : ℕ) (h : HeldPart) → All (λ h. h.part < n) held → slice_get held i ≡ Some h → h.part < n
held-within n held i h all is = subst (λ (x : HeldPart). x.part < n) (get_or_from_slice_get held i h h is) (all i h (slice_get_within held i h is))

-- one more image
pub map-next : {A B : Type 0} (f : A → B) (xs : List A) (i : ℕ) (x : A) (before after : List B) → slice_get xs i ≡ Some x → before ≡ map f (take i xs) → after ≡ before ++ f x ∷ []
    → after ≡ map f (take (i + 1) xs)
map-next f xs i x before after at before_is after_is =
    after_is ∙ ap (λ l. l ++ f x ∷ []) before_is ∙ sym (map-append f (take i xs) (x ∷ [])) ∙ ap (map f) (sym (take-at xs i x at))

-- ---- labels

-- one more row with its label
pub labelled-push : (labels : List (List ℕ)) (from : ℕ) (rows : List Row) (row : Row)
    → rows_labelled labels from (rows ++ row ∷ []) ≡ rows_labelled labels from rows ++ (let r : Row = record row { label = slice_index_or labels (from + length rows) [] } in r) ∷ []
labelled-push labels from [] row = ap (λ n. (let r : Row = record row { label = slice_index_or labels n [] } in r) ∷ []) (let same : from ≡ from + 0 = omega arith in same)
labelled-push labels from (x ∷ rows) row =
    ap (λ (l : List Row). (let r : Row = record x { label = slice_index_or labels from [] } in r) ∷ l)
    (labelled-push labels (from + 1) rows row
    ∙ ap (λ n. rows_labelled labels (from + 1) rows ++ (let r : Row = record row { label = slice_index_or labels n [] } in r) ∷ []) (let same : from + 1 + length rows ≡ from + suc (length rows) = omega arith in same))

pub labelled-more : (labels : List (List ℕ)) (from : ℕ) (rows : List Row) (i place : ℕ) (row : Row) (label : List ℕ) (before after : List Row) → slice_get rows i ≡ Some row → place ≡ from + i
    → label ≡ slice_index_or labels place [] → before ≡ rows_labelled labels from (take i rows) → after ≡ before ++ (let r : Row = record row { label = label } in r) ∷ []
    → after ≡ rows_labelled labels from (take (i + 1) rows)
labelled-more labels from rows i place row label before after at place_is label_is before_is after_is =
    let count : length (take i rows) ≡ i = length-take-le i rows (let inside : i ≤ length rows = omega (arith, slice_get_within rows i row at) in inside) in
    after_is
    ∙ ap₂ (λ (l : List Row) (text : List ℕ). l ++ (let r : Row = record row { label = text } in r) ∷ []) before_is (label_is ∙ ap (λ n. slice_index_or labels n []) (place_is ∙ ap (λ n. from + n) (sym count)))
    ∙ sym (labelled-push labels from (take i rows) row)
    ∙ ap (rows_labelled labels from) (sym (take-at rows i row at))

-- one more row of the same
pub copied-more : (rows : List Row) (i : ℕ) (row : Row) (before after : List Row) → slice_get rows i ≡ Some row → before ≡ take i rows → after ≡ before ++ row ∷ [] → after ≡ take (i + 1) rows
copied-more rows i row before after at before_is after_is = after_is ∙ ap (λ l. l ++ row ∷ []) before_is ∙ sym (take-at rows i row at)

-- ---- levels

pub levels-push : (labels : List (List ℕ)) (from : ℕ) (levels : List Keyed) (k : Keyed)
    → levels_labelled labels from (levels ++ k ∷ []) ≡ levels_labelled labels from levels ++ level_labelled labels (from + length (all_keys levels)) k.level ∷ []
levels-push labels from [] k = ap (λ n. level_labelled labels n k.level ∷ []) (let same : from ≡ from + 0 = omega arith in same)
levels-push labels from (x ∷ levels) k =
    ap (λ l. level_labelled labels from x.level ∷ l)
    (levels-push labels (from + length x.keys) levels k
    ∙ ap (λ n. levels_labelled labels (from + length x.keys) levels ++ level_labelled labels n k.level ∷ [])
    (let same : from + length x.keys + length (all_keys levels) ≡ from + length (x.keys ++ all_keys levels) = omega (arith, length-append x.keys (all_keys levels)) in same))

keys-push : (levels : List Keyed) (k : Keyed) → length (all_keys (levels ++ k ∷ [])) ≡ length (all_keys levels) + length k.keys
keys-push [] k = omega (arith, length-append k.keys [])
keys-push (x ∷ levels) k = omega (arith, length-append x.keys (all_keys (levels ++ k ∷ [])), keys-push levels k, length-append x.keys (all_keys levels))

-- the levels so far with their labels, and where the labels of the next one begin
pub record AreLabelled (labels : List (List ℕ)) (levels : List KeyedLevel) (labelled : List Level) (from : ℕ) : Type 0 where
  pub levels_are : labelled ≡ levels_labelled labels 0 (map shown_keyed levels)
  pub from_is : from ≡ length (all_keys (map shown_keyed levels))

pub labelled-next : (labels : List (List ℕ)) (levels : List KeyedLevel) (i : ℕ) (k : KeyedLevel) (level : Level) (before after : List Level) (from next : ℕ) → slice_get levels i ≡ Some k
    → AreLabelled labels (take i levels) before from → level ≡ level_labelled labels from k.level → after ≡ before ++ level ∷ [] → next ≡ from + length k.keys.items
    → AreLabelled labels (take (i + 1) levels) after next
labelled-next labels levels i k level before after from next at are level_is after_is next_is =
    let shown = map shown_keyed (take i levels) in
    let more : map shown_keyed (take (i + 1) levels) ≡ shown ++ shown_keyed k ∷ [] = ap (map shown_keyed) (take-at levels i k at) ∙ map-append shown_keyed (take i levels) (k ∷ []) in record {
      levels_are = after_is
          ∙ ap₂ (λ (l : List Level) (a : Level). l ++ a ∷ []) are.levels_are (level_is ∙ ap (λ n. level_labelled labels n k.level) (are.from_is ∙ (let same : length (all_keys shown) ≡ 0 + length (all_keys shown) = omega arith in same)))
          ∙ sym (levels-push labels 0 shown (shown_keyed k))
          ∙ ap (levels_labelled labels 0) (sym more);
      from_is = next_is ∙ ap (λ n. n + length k.keys.items) are.from_is ∙ sym (keys-push shown (shown_keyed k)) ∙ ap (λ l. length (all_keys l)) (sym more);
    }
