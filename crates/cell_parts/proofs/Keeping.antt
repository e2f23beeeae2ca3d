-- The parts as they are kept, one by one.
use Rattle.std.proofs.Common.{◌≡◌, ℕ, zero, suc, ◌+◌, ◌<◌, ◌≤◌, ◌==◌, ◌||◌, ◌⊎◌, false, All, List, [], ◌∷◌, ◌++◌, length, map, set, get_or, Some, refl, sym, ◌∙◌, ap, subst, inl, inr, arith}
use Rattle.std.specs.Prelude.{nat_eq, slice_get, slice_range, if◌then◌else◌}
use Rattle.std.specs.List.{list_any, AllByRecursion, IsDistinct}
use Rattle.std.proofs.lemmas.Bool.{cases_eq, eq-eqb, false≢true, ne_eqb, or_parts}
use Rattle.std.proofs.lemmas.List.Elements.{All-head, All-tail}
use Rattle.std.proofs.lemmas.Option.{none-some, same_Some, slice_get-get_or, slice_get_within}
use Rattle.dump_io.specs.Laws.Lists.{between-grown}
use Rattle.cell_parts.specs.Parts.{CellPart}
use Rattle.cell_parts.specs.Inner.Joining.{cell_at, counted, is_of}
use Rattle.cell_parts.specs.Inner.Keeping.{AreNumbered, part_in, parts_in}
use Rattle.cell_parts.specs.declared.parts.Kept.{Kept}

pub length-parts : (labels cells : List ℕ) (kept : List Kept) → length kept ≡ length cells → length (parts_in labels cells kept) ≡ length cells
length-parts labels [] kept same = refl
length-parts labels (c ∷ cells) [] same = absurd (omega (arith, same))
length-parts labels (c ∷ cells) (k ∷ kept) same = omega (arith, length-parts labels cells kept (omega (arith, same)))

pub cells-in : (labels cells : List ℕ) (kept : List Kept) → length kept ≡ length cells → map (λ (p : CellPart). p.cell) (parts_in labels cells kept) ≡ cells
cells-in labels [] kept same = refl
cells-in labels (c ∷ cells) [] same = absurd (omega (arith, same))
cells-in labels (c ∷ cells) (k ∷ kept) same = ap (λ cs. c ∷ cs) (cells-in labels cells kept (omega (arith, same)))

-- the part at a place
pub part-there : (labels cells : List ℕ) (kept : List Kept) (i : ℕ) (c : ℕ) (k : Kept) → slice_get cells i ≡ Some c → slice_get kept i ≡ Some k
    → slice_get (parts_in labels cells kept) i ≡ Some (part_in labels c k)
part-there labels [] kept zero c k here kept_here = absurd (none-some c here)
part-there labels [] kept (suc i) c k here kept_here = absurd (none-some c here)
part-there labels (d ∷ cells) [] zero c k here kept_here = absurd (none-some k kept_here)
part-there labels (d ∷ cells) [] (suc i) c k here kept_here = absurd (none-some k kept_here)
part-there labels (d ∷ cells) (l ∷ kept) zero c k here kept_here =
    ap (λ x. Some (part_in labels x l)) (same_Some d c here) ∙ ap (λ x. Some (part_in labels c x)) (same_Some l k kept_here)
part-there labels (d ∷ cells) (l ∷ kept) (suc i) c k here kept_here = part-there labels cells kept i c k here kept_here

pub kept-inside : (labels cells : List ℕ) (kept : List Kept) (parts : List CellPart) (i : ℕ) → parts_in labels cells kept ≡ parts → length kept ≡ length cells → i < length parts → i < length kept
kept-inside labels cells kept parts i are same within = omega (arith, ap length are, same, within, length-parts labels cells kept same)

-- the part at a place as it is read
pub part-read : (labels cells : List ℕ) (kept : List Kept) (i : ℕ) (k : Kept) → length kept ≡ length cells → i < length kept → k ≡ get_or kept i k
    → slice_get (parts_in labels cells kept) i ≡ Some (part_in labels (get_or cells i 0) k)
part-read labels cells kept i k same within is =
    part-there labels cells kept i (get_or cells i 0) k
    (slice_get-get_or cells i 0 (omega (arith, same, within)))
    (slice_get-get_or kept i k within ∙ ap Some (sym is))

pub cell-there : (labels cells : List ℕ) (kept : List Kept) (i : ℕ) → length kept ≡ length cells → cell_at (parts_in labels cells kept) i ≡ slice_get cells i
cell-there labels [] kept zero same = refl
cell-there labels [] kept (suc i) same = refl
cell-there labels (c ∷ cells) [] i same = absurd (omega (arith, same))
cell-there labels (c ∷ cells) (k ∷ kept) zero same = refl
cell-there labels (c ∷ cells) (k ∷ kept) (suc i) same = cell-there labels cells kept i (omega (arith, same))

-- ---- one more part

pub parts-more : (labels cells : List ℕ) (kept : List Kept) (c : ℕ) (k : Kept) → length kept ≡ length cells
    → parts_in labels (cells ++ c ∷ []) (kept ++ k ∷ []) ≡ parts_in labels cells kept ++ part_in labels c k ∷ []
parts-more labels [] [] c k same = refl
parts-more labels [] (l ∷ kept) c k same = absurd (omega (arith, same))
parts-more labels (d ∷ cells) [] c k same = absurd (omega (arith, same))
parts-more labels (d ∷ cells) (l ∷ kept) c k same = ap (λ ps. part_in labels d l ∷ ps) (parts-more labels cells kept c k (omega (arith, same)))

-- a longer pool of labels has the same labels there
pub parts-longer : (labels more cells : List ℕ) (kept : List Kept) → All (λ k. k.from + k.size ≤ length labels) kept → parts_in (labels ++ more) cells kept ≡ parts_in labels cells kept
parts-longer labels more [] kept within = refl
parts-longer labels more (c ∷ cells) [] within = refl
parts-longer labels more (c ∷ cells) (k ∷ kept) within =
    let fits : k.from + k.size ≤ length labels = All-head (λ (l : Kept). l.from + l.size ≤ length labels) k kept within in
    ap (λ t. let p : CellPart = record { cell = c; elements = k.elements; at = k.at; label = t } in p ∷ parts_in (labels ++ more) cells kept) (between-grown labels more k.from (k.from + k.size) (omega arith) fits)
    ∙ ap (λ ps. part_in labels c k ∷ ps) (parts-longer labels more cells kept (All-tail (λ (l : Kept). l.from + l.size ≤ length labels) k kept within))

-- ---- whether a part has the cell

pub none-of : (labels cells : List ℕ) (kept : List Kept) (cell : ℕ) → ((i : ℕ) → slice_get cells i ≡ Some cell → ⊥) → list_any (is_of cell) (parts_in labels cells kept) ≡ false
none-of labels [] kept cell none = refl
none-of labels (c ∷ cells) [] cell none = refl
none-of labels (c ∷ cells) (k ∷ kept) cell none =
    ap (λ b. b || list_any (is_of cell) (parts_in labels cells kept)) (ne_eqb c cell (λ same. none zero (ap Some same)))
    ∙ none-of labels cells kept cell (λ i is. none (suc i) is)

pub not-there : (labels cells : List ℕ) (kept : List Kept) (cell : ℕ) → length kept ≡ length cells → list_any (is_of cell) (parts_in labels cells kept) ≡ false
    → (i : ℕ) → slice_get cells i ≡ Some cell → ⊥
not-there labels [] kept cell same none zero is = none-some cell is
not-there labels [] kept cell same none (suc i) is = none-some cell is
not-there labels (c ∷ cells) [] cell same none i is = omega (arith, same)
not-there labels (c ∷ cells) (k ∷ kept) cell same none zero is =
    let parts = or_parts (c == cell) (list_any (is_of cell) (parts_in labels cells kept)) none in
    false≢true (sym parts.0 ∙ eq-eqb c cell (same_Some c cell is))
not-there labels (c ∷ cells) (k ∷ kept) cell same none (suc i) is =
    let parts = or_parts (c == cell) (list_any (is_of cell) (parts_in labels cells kept)) none in
    not-there labels cells kept cell (omega (arith, same)) parts.1 i is

-- ---- one more element leads to the cell of a part

pub counted-none : (cell : ℕ) (parts : List CellPart) → list_any (is_of cell) parts ≡ false → map (counted cell) parts ≡ parts
counted-none cell [] none = refl
counted-none cell (part ∷ parts) none =
    let here_and = or_parts (is_of cell part) (list_any (is_of cell) parts) none in
    ap (λ b. (if b then record part { elements = part.elements + 1 } else part) ∷ map (counted cell) parts) here_and.0
    ∙ ap (λ ps. part ∷ ps) (counted-none cell parts here_and.1)

counted-same : (labels : List ℕ) (c cell : ℕ) (k : Kept) → c ≡ cell
    → counted cell (part_in labels c k) ≡ part_in labels c (record k { elements = k.elements + 1 })
counted-same labels c cell k same =
    ap (λ b. if b then (let p : CellPart = record { cell = c; elements = k.elements + 1; at = k.at; label = slice_range labels k.from (k.from + k.size) } in p) else part_in labels c k) (eq-eqb c cell same)

counted-other : (labels : List ℕ) (c cell : ℕ) (k : Kept) → (c ≡ cell → ⊥) → counted cell (part_in labels c k) ≡ part_in labels c k
counted-other labels c cell k other =
    ap (λ b. if b then (let p : CellPart = record { cell = c; elements = k.elements + 1; at = k.at; label = slice_range labels k.from (k.from + k.size) } in p) else part_in labels c k) (ne_eqb c cell other)

pub counted-at : (labels cells : List ℕ) (kept : List Kept) (i cell : ℕ) (k : Kept) → length kept ≡ length cells → slice_get cells i ≡ Some cell
    → ((j : ℕ) → slice_get cells j ≡ Some cell → j ≡ i) → slice_get kept i ≡ Some k
    → parts_in labels cells (set kept i (record k { elements = k.elements + 1 })) ≡ map (counted cell) (parts_in labels cells kept)
counted-at labels [] kept zero cell k same here only is = absurd (none-some cell here)
counted-at labels [] kept (suc i) cell k same here only is = absurd (none-some cell here)
counted-at labels (c ∷ cells) [] i cell k same here only is = absurd (omega (arith, same))
counted-at labels (c ∷ cells) (l ∷ kept) zero cell k same here only is =
    let later : (j : ℕ) → slice_get cells j ≡ Some cell → ⊥ = λ j there. let no : suc j ≡ 0 = only (suc j) there in omega (arith, no) in
    ap (λ x. part_in labels c (record x { elements = x.elements + 1 }) ∷ parts_in labels cells kept) (sym (same_Some l k is))
    ∙ ap (λ p. p ∷ parts_in labels cells kept) (sym (counted-same labels c cell l (same_Some c cell here)))
    ∙ ap (λ ps. counted cell (part_in labels c l) ∷ ps) (sym (counted-none cell (parts_in labels cells kept) (none-of labels cells kept cell later)))
counted-at labels (c ∷ cells) (l ∷ kept) (suc i) cell k same here only is =
    let other : c ≡ cell → ⊥ = λ e. let no : 0 ≡ suc i = only zero (ap Some e) in omega (arith, no) in
    ap (λ p. p ∷ parts_in labels cells (set kept i (record k { elements = k.elements + 1 }))) (sym (counted-other labels c cell l other))
    ∙ ap (λ ps. counted cell (part_in labels c l) ∷ ps)
    (counted-at labels cells kept i cell k (omega (arith, same)) here (λ j there. let next : suc j ≡ suc i = only (suc j) there in omega (arith, next)) is)

-- ---- the numbers of the parts

module _ (places cells : List ℕ) (are : AreNumbered places cells) where
  pub cell-within : (i cell : ℕ) → slice_get cells i ≡ Some cell → cell < length places
  cell-within i cell is = slice_get_within places cell (i + 1) (are.numbered i cell is)

  -- no two parts have the same cell
  pub only-place : (i j cell : ℕ) → slice_get cells i ≡ Some cell → slice_get cells j ≡ Some cell → j ≡ i
  only-place i j cell one other =
      let same : j + 1 ≡ i + 1 = same_Some (j + 1) (i + 1) (sym (are.numbered j cell other) ∙ are.numbered i cell one) in
      omega (arith, same)

  -- a cell that has no number is no part
  pub no-place : (cell : ℕ) → slice_get places cell ≡ Some 0 → (i : ℕ) → slice_get cells i ≡ Some cell → ⊥
  no-place cell zero_there i is =
      let same : 0 ≡ i + 1 = same_Some 0 (i + 1) (sym zero_there ∙ are.numbered i cell is) in
      omega (arith, same)

all-from-places : (cells : List ℕ) (P : ℕ → Type 0) → ((i cell : ℕ) → slice_get cells i ≡ Some cell → P cell) → All P cells
all-from-places cells P each k d within = each k (get_or cells k d) (slice_get-get_or cells k d within)

pub cells-within : (places cells : List ℕ) → AreNumbered places cells → All (λ cell. cell < length places) cells
cells-within places cells are = all-from-places cells (λ cell. cell < length places) (cell-within places cells are)

apart : (c : ℕ) (cs : List ℕ) → ((i : ℕ) → slice_get cs i ≡ Some c → ⊥) → AllByRecursion (λ y. nat_eq c y ≡ false) cs
apart c [] none = tt
apart c (d ∷ cs) none = (ne_eqb c d (λ same. none zero (ap Some (sym same))), apart c cs (λ i is. none (suc i) is))

distinct-from : (cells : List ℕ) → ((i j cell : ℕ) → slice_get cells i ≡ Some cell → slice_get cells j ≡ Some cell → j ≡ i) → IsDistinct nat_eq cells
unfolding IsDistinct
distinct-from [] only = tt
distinct-from (c ∷ cells) only = (
  apart c cells (λ i is. let no : suc i ≡ 0 = only zero (suc i) c refl is in omega (arith, no)),
  distinct-from cells (λ i j cell one other. let next : suc j ≡ suc i = only (suc i) (suc j) cell one other in omega (arith, next)),
)

pub cells-distinct : (places cells : List ℕ) → AreNumbered places cells → IsDistinct nat_eq cells
cells-distinct places cells are = distinct-from cells (only-place places cells are)

get-set-same : (xs : List ℕ) (i y : ℕ) → i < length xs → slice_get (set xs i y) i ≡ Some y
get-set-same [] i y within = absurd (omega (arith, within))
get-set-same (x ∷ xs) zero y within = refl
get-set-same (x ∷ xs) (suc i) y within = get-set-same xs i y (omega (arith, within))

get-set-other : (xs : List ℕ) (i j y : ℕ) → (j ≡ i → ⊥) → slice_get (set xs i y) j ≡ slice_get xs j
get-set-other [] zero j y other = refl
get-set-other [] (suc i) j y other = refl
get-set-other (x ∷ xs) zero zero y other = absurd (other refl)
get-set-other (x ∷ xs) zero (suc j) y other = refl
get-set-other (x ∷ xs) (suc i) zero y other = refl
get-set-other (x ∷ xs) (suc i) (suc j) y other = get-set-other xs i j y (λ same. other (ap suc same))

-- an element of a list that one was appended to
get-push : (xs : List ℕ) (x i y : ℕ) → slice_get (xs ++ x ∷ []) i ≡ Some y → (slice_get xs i ≡ Some y) ⊎ ((i ≡ length xs) × (x ≡ y))
get-push [] x zero y is = inr (refl, same_Some x y is)
get-push [] x (suc i) y is = absurd (none-some y is)
get-push (z ∷ xs) x zero y is = inl is
get-push (z ∷ xs) x (suc i) y is = elim (get-push xs x i y is) [ inl there ↦ inl there | inr last ↦ inr (ap suc last.0, last.1) ]

get-pushed : (xs : List ℕ) (x i y : ℕ) → slice_get xs i ≡ Some y → slice_get (xs ++ x ∷ []) i ≡ Some y
get-pushed [] x zero y is = absurd (none-some y is)
get-pushed [] x (suc i) y is = absurd (none-some y is)
get-pushed (z ∷ xs) x zero y is = is
get-pushed (z ∷ xs) x (suc i) y is = get-pushed xs x i y is

get-last : (xs : List ℕ) (x : ℕ) → slice_get (xs ++ x ∷ []) (length xs) ≡ Some x
get-last [] x = refl
get-last (z ∷ xs) x = get-last xs x

pub numbered-more : (places cells : List ℕ) (c : ℕ) → AreNumbered places cells → c < length places → ((i : ℕ) → slice_get cells i ≡ Some c → ⊥)
    → AreNumbered (set places c (length cells + 1)) (cells ++ c ∷ [])
numbered-more places cells c are within new = record {
  numbered = λ i cell is. elim (get-push cells c i cell is) [
    | inl there ↦ get-set-other places c cell (length cells + 1) (λ same. new i (subst (λ x. slice_get cells i ≡ Some x) same there)) ∙ are.numbered i cell there
    | inr last ↦
        subst (λ x. slice_get (set places c (length cells + 1)) x ≡ Some (i + 1)) last.1
        (get-set-same places c (length cells + 1) within ∙ ap (λ n. Some (n + 1)) (sym last.0))
  ];
  found = λ i cell is. elim (cases_eq cell c) [
    | inl same ↦
        let number : length cells + 1 ≡ i + 1 =
        same_Some (length cells + 1) (i + 1) (sym (get-set-same places c (length cells + 1) within) ∙ subst (λ x. slice_get (set places c (length cells + 1)) x ≡ Some (i + 1)) same is) in
        let last : length cells ≡ i = omega (arith, number) in
        ap (slice_get (cells ++ c ∷ [])) (sym last) ∙ get-last cells c ∙ ap Some (sym same)
    | inr other ↦ get-pushed cells c i cell (are.found i cell (sym (get-set-other places c cell (length cells + 1) other) ∙ is))
  ];
}
