-- A part has at most as many references to binaries as the whole heap.
use Rattle.std.proofs.Common.{◌≡◌, ℕ, zero, suc, ◌+◌, ◌≤◌, ◌==◌, nat_eq, Bool, true, false, cond, ◌||◌, List, [], ◌∷◌, ◌++◌, length, take, Option, None, Some, is_some, slice_get, option_to_list, refl, sym, ◌∙◌, ap, ap₂, eqb-true, eq-eqb, length-append, arith}
use Rattle.std.specs.List.{list_any, IsDistinct, AllByRecursion}
use Rattle.std.specs.Option.{option_and_then, option_map_or}
use Rattle.std.proofs.lemmas.Cmp.{nat_eq_equiv}
use Rattle.std.proofs.lemmas.Bool.{true≢false, false≢true, false_from_ne_true}
use Rattle.std.proofs.lemmas.List.Folds.{list_any-append}
use Rattle.std.proofs.lemmas.Map.Made.{length-le_from_is_member}
use Rattle.std.proofs.Math.Bool.{or-true}
use Rattle.std.proofs.Math.Seq.{take-length}
use Rattle.term_forms.specs.Forms.{HeapForm, RefBin, SubBin}
use Rattle.heap_cells.specs.Cells.{Cell, first_cells}
use Rattle.heap_cells.specs.HeapMap.{form_at}
use Rattle.binary_refs.specs.Previews.{binaries, by_number, stated}
use Rattle.heap_parts.specs.Inner.Growing.{first_with, EachFirst, AreFirstLines}
use Rattle.heap_parts.proofs.FirstFacts.{keeps-first}

-- ---- counting addresses in place of numbers

-- whether a cell refers to a binary, by its form
abbrev refers : Option HeapForm → Bool
refers form = is_some (option_and_then (stated 0) form)

-- an address, if its cell refers to a binary, before others
abbrev cons_ref : Cell → List ℕ → List ℕ
cons_ref cell later = cond (refers cell.form) (cell.address ∷ later) later

-- the addresses of the cells that refer to a binary
abbrev refs : List Cell → List ℕ
refs [] = []
refs (cell ∷ cells) = cons_ref cell (refs cells)

refs-append : (xs ys : List Cell) → refs (xs ++ ys) ≡ refs xs ++ refs ys
refs-append [] ys = refl
refs-append (cell ∷ xs) ys =
    elim (refers cell.form) as (λ b. cond b (cell.address ∷ refs (xs ++ ys)) (refs (xs ++ ys)) ≡ cond b (cell.address ∷ refs xs) (refs xs) ++ refs ys) [
      | true ↦ ap (λ l. cell.address ∷ l) (refs-append xs ys)
      | false ↦ refs-append xs ys
    ]

take-one : (n : ℕ) (cells : List Cell) → take (suc n) cells ≡ take n cells ++ option_to_list (slice_get cells n)
take-one zero [] = refl
take-one zero (cell ∷ cells) = refl
take-one (suc n) [] = refl
take-one (suc n) (cell ∷ cells) = ap (λ l. cell ∷ l) (take-one n cells)

form-counted : (n : ℕ) (address : ℕ) (form : HeapForm) → length (option_to_list (stated n form)) ≡ length (cond (is_some (stated 0 form)) (address ∷ []) [])
form-counted n address (RefBin from offset size) = refl
form-counted n address (SubBin from offset size) = refl
form-counted n address form = refl

cell-counted : (n : ℕ) (found : Option Cell) → length (option_to_list (option_and_then (stated n) (option_and_then (λ cell. cell.form) found))) ≡ length (refs (option_to_list found))
cell-counted n None = refl
cell-counted n (Some cell) = by cell.form
  where
    by : (form : Option HeapForm) → length (option_to_list (option_and_then (stated n) form)) ≡ length (cond (refers form) (cell.address ∷ []) [])
    by None = refl
    by (Some form) = form-counted n cell.address form

count-below : (cells : List Cell) (n : ℕ) → length (by_number stated cells n) ≡ length (refs (take n cells))
count-below cells zero = refl
count-below cells (suc n) =
    let one = option_to_list (option_and_then (stated n) (form_at cells n)) in
    let next = option_to_list (slice_get cells n) in
    length-append (by_number stated cells n) one
    ∙ ap₂ (λ k l. k + l) (count-below cells n) (cell-counted n (slice_get cells n))
    ∙ sym (length-append (refs (take n cells)) (refs next))
    ∙ ap length (sym (refs-append (take n cells) next))
    ∙ ap (λ l. length (refs l)) (sym (take-one n cells))

count-refs : (cells : List Cell) → length (binaries cells) ≡ length (refs cells)
count-refs cells = count-below cells (length cells) ∙ ap (λ l. length (refs l)) (take-length cells)

-- ---- no address is counted twice

-- whether an address was seen
abbrev was_seen : List ℕ → ℕ → Bool
was_seen seen a = list_any (λ address. address == a) seen

seen-more : (a : ℕ) (seen : List ℕ) (x : ℕ) → was_seen seen a ≡ true → was_seen (seen ++ x ∷ []) a ≡ true
seen-more a seen x is = list_any-append (λ s. s == a) seen (x ∷ []) ∙ ap (λ b. b || list_any (λ s. s == a) (x ∷ [])) is

seen-last : (seen : List ℕ) (a : ℕ) → was_seen (seen ++ a ∷ []) a ≡ true
seen-last seen a =
    list_any-append (λ s. s == a) seen (a ∷ [])
    ∙ ap (λ b. was_seen seen a || (b || false)) (eq-eqb a a refl)
    ∙ or-true (was_seen seen a)

-- an address that is none of these
abbrev IsApart : ℕ → List ℕ → Type 0
IsApart a others = AllByRecursion (λ b. nat_eq a b ≡ false) others

apart : (a : ℕ) (seen : List ℕ) (cells : List Cell) → was_seen seen a ≡ true → IsApart a (refs (first_cells seen cells))
apart a seen [] is = tt
apart a seen (cell ∷ cells) is =
    by (was_seen seen cell.address) refl (refers cell.form) (apart a (seen ++ cell.address ∷ []) cells (seen-more a seen cell.address is))
  where
    by : (old : Bool) → was_seen seen cell.address ≡ old → (ref : Bool) → IsApart a (refs (first_cells (seen ++ cell.address ∷ []) cells))
        → IsApart a (refs (cond old (first_cells (seen ++ cell.address ∷ []) cells) (cell ∷ first_cells (seen ++ cell.address ∷ []) cells)))
    by true old ref rest = rest
    by false new ref rest =
        elim (refers cell.form) as (λ b. IsApart a (cond b (cell.address ∷ refs (first_cells (seen ++ cell.address ∷ []) cells)) (refs (first_cells (seen ++ cell.address ∷ []) cells)))) [
          | true ↦ (false_from_ne_true _ (λ same. true≢false (sym is ∙ ap (was_seen seen) (eqb-true a cell.address same) ∙ new)), rest)
          | false ↦ rest
        ]

distinct : (seen : List ℕ) (cells : List Cell) → IsDistinct nat_eq (refs (first_cells seen cells))
unfolding IsDistinct
distinct seen [] = tt
distinct seen (cell ∷ cells) = by (was_seen seen cell.address) (distinct more cells) (apart cell.address more cells (seen-last seen cell.address))
  where
    more : List ℕ
    more = seen ++ cell.address ∷ []

    by : (old : Bool) → IsDistinct nat_eq (refs (first_cells more cells)) → IsApart cell.address (refs (first_cells more cells))
        → IsDistinct nat_eq (refs (cond old (first_cells more cells) (cell ∷ first_cells more cells)))
    by true rest other = rest
    by false rest other =
        elim (refers cell.form) as (λ b. IsDistinct nat_eq (cond b (cell.address ∷ refs (first_cells more cells)) (refs (first_cells more cells)))) [
          | true ↦ (other, rest)
          | false ↦ rest
        ]

-- ---- what is counted in a part is counted in the whole

-- whether a cell that was found refers to a binary
abbrev found_ref : Option Cell → Bool
found_ref found = option_map_or (λ cell. refers cell.form) found false

-- an address that is counted in a part is that of a first cell that refers to a binary
member-first : (all cells : List Cell) (seen : List ℕ) (q : ℕ) → EachFirst all cells → list_any (nat_eq q) (refs (first_cells seen cells)) ≡ true → found_ref (first_with all q) ≡ true
member-first all [] seen q each is = absurd (false≢true is)
member-first all (cell ∷ cells) seen q each is =
    by (was_seen seen cell.address) (refers cell.form) refl (member-first all cells (seen ++ cell.address ∷ []) q each.1) is
  where
    later : List Cell
    later = first_cells (seen ++ cell.address ∷ []) cells

    here : (same : Bool) → nat_eq q cell.address ≡ same → refers cell.form ≡ true → (list_any (nat_eq q) (refs later) ≡ true → found_ref (first_with all q) ≡ true)
        → (same || list_any (nat_eq q) (refs later)) ≡ true → found_ref (first_with all q) ≡ true
    here true same ref rest is = ap (λ a. found_ref (first_with all a)) (eqb-true q cell.address same) ∙ ap found_ref each.0 ∙ ref
    here false other ref rest is = rest is

    by : (old ref : Bool) → refers cell.form ≡ ref → (list_any (nat_eq q) (refs later) ≡ true → found_ref (first_with all q) ≡ true)
        → list_any (nat_eq q) (refs (cond old later (cell ∷ later))) ≡ true → found_ref (first_with all q) ≡ true
    by true ref at rest is = rest is
    by false true at rest is = here (nat_eq q cell.address) refl at rest (sym (ap (λ b. list_any (nat_eq q) (cond b (cell.address ∷ refs later) (refs later))) at) ∙ is)
    by false false at rest is = rest (sym (ap (λ b. list_any (nat_eq q) (cond b (cell.address ∷ refs later) (refs later))) at) ∙ is)

-- and one of a first cell that refers to a binary is counted
member-found : (cells : List Cell) (q : ℕ) → found_ref (first_with cells q) ≡ true → list_any (nat_eq q) (refs cells) ≡ true
member-found [] q is = absurd (false≢true is)
member-found (cell ∷ cells) q is = by (cell.address == q) refl (refers cell.form) refl (member-found cells q) is
  where
    by : (same : Bool) → (cell.address == q) ≡ same → (ref : Bool) → refers cell.form ≡ ref → (found_ref (first_with cells q) ≡ true → list_any (nat_eq q) (refs cells) ≡ true)
        → found_ref (cond same (Some cell) (first_with cells q)) ≡ true → list_any (nat_eq q) (cons_ref cell (refs cells)) ≡ true
    by true same ref at rest is =
        ap (λ b. list_any (nat_eq q) (cond b (cell.address ∷ refs cells) (refs cells))) is
        ∙ ap (λ b. b || list_any (nat_eq q) (refs cells)) (eq-eqb q cell.address (sym (eqb-true cell.address q same)))
    by false other true at rest is =
        ap (λ b. list_any (nat_eq q) (cond b (cell.address ∷ refs cells) (refs cells))) at
        ∙ ap (λ b. nat_eq q cell.address || b) (rest is)
        ∙ or-true (nat_eq q cell.address)
    by false other false at rest is = ap (λ b. list_any (nat_eq q) (cond b (cell.address ∷ refs cells) (refs cells))) at ∙ rest is

pub fewer-binaries : (all lines : List Cell) → AreFirstLines all lines → length (binaries (first_cells [] lines)) ≤ length (binaries (first_cells [] all))
fewer-binaries all lines firsts =
    let whole = first_cells [] all in
    let few : length (refs (first_cells [] lines)) ≤ length (refs whole) =
    length-le_from_is_member nat_eq_equiv (refs (first_cells [] lines)) (refs whole) (distinct [] lines)
    (λ q is. member-found whole q (ap found_ref (keeps-first [] all q refl) ∙ member-first all lines [] q firsts.each is)) in
    omega (arith, few, count-refs (first_cells [] lines), count-refs whole)
