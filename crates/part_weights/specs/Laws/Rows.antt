-- The parts that alone hold cells, by their numbers and as rows.
use Rattle.std.proofs.Common.{◌≡◌, ℕ, ◌+◌, ◌<◌, ◌≤◌, Bool, true, false, List, [], ◌∷◌, ◌++◌, length, map, refl, sym, ◌∙◌, ap, append_assoc, arith, length-append, nat_lt}
use Rattle.std.specs.Prelude.{slice_index_or, filter, All}
use Rattle.std.specs.List.{enumerate_from, filter_map, zip}
use Rattle.std.proofs.lemmas.List.Elements.{All-cons}
use Rattle.cell_parts.specs.Parts.{CellPart}
use Rattle.heap_skeleton.specs.Skeletons.{SkeletonMap}
use Rattle.heap_weights.specs.declared.shares.Weight.{Weight}
use Rattle.text_groups.specs.Sorting.{most_first, put_row}
use Rattle.part_weights.specs.Weights.{row_of, rows_of}
use Rattle.part_weights.specs.Held.{held_part, held_parts, sorted_parts}
use Rattle.part_weights.specs.Held.{no_part, row_at, rows_at}

-- ---- the order of sizes

put-map : {A B : Type 0} (f : A → B) (size : B → ℕ) (x : A) (rows : List A) → map f (put_row (λ a. size (f a)) x rows) ≡ put_row size (f x) (map f rows)
put-map f size x [] = refl
put-map f size x (y ∷ rows) = by (nat_lt (size (f x)) (size (f y))) refl (put-map f size x rows)
  where
    by : (b : Bool) → nat_lt (size (f x)) (size (f y)) ≡ b → map f (put_row (λ a. size (f a)) x rows) ≡ put_row size (f x) (map f rows)
        → map f (put_row (λ a. size (f a)) x (y ∷ rows)) ≡ put_row size (f x) (map f (y ∷ rows))
    by true is later = rw (is) (ap (λ l. f y ∷ l) later)
    by false is later = rw (is) refl

-- rows that keep the sizes are in the same order
pub most_first-map : {A B : Type 0} (f : A → B) (size : B → ℕ) (xs : List A) → map f (most_first (λ a. size (f a)) xs) ≡ most_first size (map f xs)
most_first-map f size [] = refl
most_first-map f size (x ∷ xs) = put-map f size x (most_first (λ a. size (f a)) xs) ∙ ap (put_row size (f x)) (most_first-map f size xs)

-- ---- rows

at-front : (front rest : List CellPart) (part : CellPart) → slice_index_or (front ++ part ∷ rest) (length front) no_part ≡ part
at-front [] rest part = refl
at-front (p ∷ front) rest part = at-front front rest part

-- the rows of the parts behind the first ones are those that hold a cell
rows-behind : (heap : SkeletonMap) (front rest : List CellPart) (alone : List Weight) → length rest ≡ length alone
    → rows_at heap (front ++ rest) (filter_map held_part (enumerate_from (length front) alone)) ≡ filter (λ row. nat_lt 0 row.cells) (map (row_of heap) (zip rest alone))
rows-behind heap front [] [] same = refl
rows-behind heap front [] (w ∷ alone) same = absurd (omega (arith, same))
rows-behind heap front (part ∷ rest) [] same = absurd (omega (arith, same))
rows-behind heap front (part ∷ rest) (w ∷ alone) same =
    let count : length (front ++ part ∷ []) ≡ length front + 1 = omega (arith, length-append front (part ∷ [])) in
    by (nat_lt 0 w.cells) refl
    (ap (λ l. rows_at heap l (filter_map held_part (enumerate_from (length front + 1) alone))) (sym (append_assoc front (part ∷ []) rest))
    ∙ ap (λ n. rows_at heap ((front ++ part ∷ []) ++ rest) (filter_map held_part (enumerate_from n alone))) (sym count)
    ∙ rows-behind heap (front ++ part ∷ []) rest alone (omega (arith, same)))
  where
    by : (b : Bool) → nat_lt 0 w.cells ≡ b
        → rows_at heap (front ++ part ∷ rest) (filter_map held_part (enumerate_from (length front + 1) alone)) ≡ filter (λ row. nat_lt 0 row.cells) (map (row_of heap) (zip rest alone))
        → rows_at heap (front ++ part ∷ rest) (filter_map held_part (enumerate_from (length front) (w ∷ alone))) ≡ filter (λ row. nat_lt 0 row.cells) (map (row_of heap) (zip (part ∷ rest) (w ∷ alone)))
    by true is later =
        rw (is) (ap (λ p. row_of heap (p, w) ∷ rows_at heap (front ++ part ∷ rest) (filter_map held_part (enumerate_from (length front + 1) alone))) (at-front front rest part)
        ∙ ap (λ l. row_of heap (part, w) ∷ l) later)
    by false is later = rw (is) later

-- the rows of the parts that hold a cell
pub rows-held : (heap : SkeletonMap) (parts : List CellPart) (alone : List Weight) → length parts ≡ length alone
    → rows_at heap parts (held_parts alone) ≡ filter (λ row. nat_lt 0 row.cells) (map (row_of heap) (zip parts alone))
rows-held heap parts alone same = rows-behind heap [] parts alone same

-- the parts that hold a cell, sorted, as rows
pub rows-sorted : (heap : SkeletonMap) (parts : List CellPart) (alone : List Weight) → length parts ≡ length alone → rows_at heap parts (sorted_parts alone) ≡ rows_of heap parts alone
rows-sorted heap parts alone same =
    most_first-map (row_at heap parts) (λ row. row.words) (held_parts alone) ∙ ap (most_first (λ row. row.words)) (rows-held heap parts alone same)

-- ---- their numbers

numbered : (most n : ℕ) (alone : List Weight) → n + length alone ≤ most → All (λ h. h.part < most) (filter_map held_part (enumerate_from n alone))
numbered most n [] few = λ k d inside. absurd (omega (arith, inside))
numbered most n (w ∷ alone) few = by (nat_lt 0 w.cells) refl (numbered most (n + 1) alone (omega (arith, few)))
  where
    by : (b : Bool) → nat_lt 0 w.cells ≡ b → All (λ h. h.part < most) (filter_map held_part (enumerate_from (n + 1) alone)) → All (λ h. h.part < most) (filter_map held_part (enumerate_from n (w ∷ alone)))
    by true is later =
        rw (is) (All-cons (λ h. h.part < most) (record { part = n; weight = w }) (filter_map held_part (enumerate_from (n + 1) alone)) (omega (arith, few)) later)
    by false is later = rw (is) later

-- each part that holds a cell is one of them
pub held-numbered : (alone : List Weight) → All (λ h. h.part < length alone) (held_parts alone)
held-numbered alone = numbered (length alone) 0 alone (omega arith)
