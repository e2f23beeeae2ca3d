-- The first lines of addresses make a part of the heap.
use Rattle.std.proofs.Common.{◌≡◌, ℕ, suc, ◌+◌, ◌==◌, Bool, true, false, cond, ◌||◌, if◌then◌else◌, List, [], ◌∷◌, ◌++◌, drop, Option, None, Some, is_some, find, refl, sym, ◌∙◌, ap, eqb-true, arith}
use Rattle.std.specs.List.{list_any, position_from}
use Rattle.std.specs.Option.{option_map, option_and_then, option_to_list}
use Rattle.std.proofs.lemmas.Bool.{true≢false, false≢true, or_parts}
use Rattle.std.proofs.lemmas.Iterator.Adapters.{position_from-zero}
use Rattle.std.proofs.lemmas.Option.{same_Some}
use Rattle.dump_io.specs.Laws.Lists.{drop-next}
use Rattle.dump_io.specs.Laws.Options.{is_some-map}
use Rattle.heap_cells.specs.Cells.{Cell, first_cells}
use Rattle.heap_cells.specs.HeapMap.{number_at, form_at}
use Rattle.term_unfold.specs.Maps.{form_at_address}
use Rattle.term_unfold.specs.Parts.{IsPartOfHeap, has_cell}
use Rattle.heap_parts.specs.Inner.Growing.{first_with, EachFirst, AreFirstLines}

-- ---- looking an address up

-- whether a cell has the address
abbrev has_address : ℕ → Cell → Bool
has_address a cell = cell.address == a

form-of : (heap : List Cell) (a i : ℕ) (cells : List Cell) → drop i heap ≡ cells
    → option_map (form_at heap) (position_from (has_address a) i cells) ≡ option_map (λ cell. cell.form) (find (has_address a) cells)
form-of heap a i [] at = refl
form-of heap a i (cell ∷ cells) at =
    let parts = drop-next heap i cell cells at in
    let next : i + 1 ≡ suc i = omega arith in
    elim (has_address a cell) as (λ b. option_map (form_at heap) (cond b (Some i) (position_from (has_address a) (i + 1) cells))
    ≡ option_map (λ cell. cell.form) (cond b (Some cell) (find (has_address a) cells))) [
      | true ↦ ap (λ o. Some (option_and_then (λ cell. cell.form) o)) parts.0
      | false ↦ form-of heap a (i + 1) cells (ap (λ k. drop k heap) next ∙ parts.1)
    ]

-- the form at an address is that of the first cell with it
pub form-first : (heap : List Cell) (a : ℕ) → form_at_address heap a ≡ option_map (λ cell. cell.form) (first_with heap a)
form-first heap a = ap (option_map (form_at heap)) (position_from-zero (has_address a) heap) ∙ form-of heap a 0 heap refl

pub has-first : (heap : List Cell) (a : ℕ) → has_cell heap a ≡ is_some (first_with heap a)
has-first heap a =
    sym (is_some-map (form_at heap) (number_at heap a)) ∙ ap is_some (form-first heap a) ∙ is_some-map (λ (cell : Cell). cell.form) (first_with heap a)

-- ---- dropping what has an address that was seen

any-push : (p : ℕ → Bool) (xs : List ℕ) (x : ℕ) → list_any p xs ≡ false → p x ≡ false → list_any p (xs ++ x ∷ []) ≡ false
any-push p [] x none not = ap (λ b. b || false) not
any-push p (y ∷ ys) x none not =
    let parts = or_parts (p y) (list_any p ys) none in
    ap (λ b. b || list_any p (ys ++ x ∷ [])) parts.0 ∙ any-push p ys x parts.1 not

-- whether an address was seen
abbrev was_seen : List ℕ → ℕ → Bool
was_seen seen a = list_any (λ address. address == a) seen

pub keeps-first : (seen : List ℕ) (cells : List Cell) (a : ℕ) → was_seen seen a ≡ false → first_with (first_cells seen cells) a ≡ first_with cells a
keeps-first seen [] a new = refl
keeps-first seen (cell ∷ cells) a new =
    by (λ other. keeps-first (seen ++ cell.address ∷ []) cells a (any-push (λ address. address == a) seen cell.address new other)) (cell.address == a) refl (was_seen seen cell.address) refl
  where
    by : ((cell.address == a) ≡ false → first_with (first_cells (seen ++ cell.address ∷ []) cells) a ≡ first_with cells a) → (same : Bool) → (cell.address == a) ≡ same → (old : Bool) → was_seen seen cell.address ≡ old
        → first_with (if was_seen seen cell.address then first_cells (seen ++ cell.address ∷ []) cells else cell ∷ first_cells (seen ++ cell.address ∷ []) cells) a ≡ first_with (cell ∷ cells) a
    by rest true same true old =
        let here = eqb-true cell.address a same in
        absurd (true≢false (sym old ∙ ap (was_seen seen) here ∙ new))
    by rest true same false old =
        ap (λ b. first_with (if b then first_cells (seen ++ cell.address ∷ []) cells else cell ∷ first_cells (seen ++ cell.address ∷ []) cells) a) old
        ∙ ap (λ b. cond b (Some cell) (first_with (first_cells (seen ++ cell.address ∷ []) cells) a)) same
        ∙ sym (ap (λ b. cond b (Some cell) (first_with cells a)) same)
    by rest false other true old =
        ap (λ b. first_with (if b then first_cells (seen ++ cell.address ∷ []) cells else cell ∷ first_cells (seen ++ cell.address ∷ []) cells) a) old
        ∙ rest other
        ∙ sym (ap (λ b. cond b (Some cell) (first_with cells a)) other)
    by rest false other false old =
        ap (λ b. first_with (if b then first_cells (seen ++ cell.address ∷ []) cells else cell ∷ first_cells (seen ++ cell.address ∷ []) cells) a) old
        ∙ ap (λ b. cond b (Some cell) (first_with (first_cells (seen ++ cell.address ∷ []) cells) a)) other
        ∙ rest other
        ∙ sym (ap (λ b. cond b (Some cell) (first_with cells a)) other)

-- the form at an address of the heap with these lines
pub form-lines : (cells : List Cell) (a : ℕ) → form_at_address (first_cells [] cells) a ≡ option_map (λ cell. cell.form) (first_with cells a)
form-lines cells a = form-first (first_cells [] cells) a ∙ ap (option_map (λ cell. cell.form)) (keeps-first [] cells a refl)

pub has-lines : (cells : List Cell) (a : ℕ) → has_cell (first_cells [] cells) a ≡ is_some (first_with cells a)
has-lines cells a = has-first (first_cells [] cells) a ∙ ap is_some (keeps-first [] cells a refl)

-- ---- parts

-- what is found among firsts is the first of all
found-first : (all cells : List Cell) (a : ℕ) (cell : Cell) → EachFirst all cells → first_with cells a ≡ Some cell → first_with all a ≡ Some cell
found-first all [] a cell each is = let no : None ≡ Some cell = is in cc
found-first all (c ∷ cells) a cell each is = by (found-first all cells a cell each.1) (c.address == a) refl is
  where
    by : (first_with cells a ≡ Some cell → first_with all a ≡ Some cell) → (same : Bool) → (c.address == a) ≡ same
        → cond same (Some c) (first_with cells a) ≡ Some cell → first_with all a ≡ Some cell
    by rest true same found = ap (first_with all) (sym (eqb-true c.address a same)) ∙ each.0 ∙ found
    by rest false other found = rest found

pub firsts-part : (all cells : List Cell) → AreFirstLines all cells → IsPartOfHeap (first_cells [] cells) (first_cells [] all)
firsts-part all cells firsts = record { forms = λ a some. form-lines cells a ∙ by a (first_with cells a) refl (sym (has-lines cells a) ∙ some) ∙ sym (form-lines all a) }
  where
    by : (a : ℕ) (found : Option Cell) → first_with cells a ≡ found → is_some (first_with cells a) ≡ true
        → option_map (λ cell. cell.form) (first_with cells a) ≡ option_map (λ cell. cell.form) (first_with all a)
    by a None is some = absurd (false≢true (ap is_some (sym is) ∙ some))
    by a (Some cell) is some = ap (option_map (λ cell. cell.form)) (is ∙ sym (found-first all cells a cell firsts.each is))

-- ---- one more line

each-append : (all cells more : List Cell) → EachFirst all cells → EachFirst all more → EachFirst all (cells ++ more)
each-append all [] more a b = b
each-append all (c ∷ cells) more a b = (a.0, each-append all cells more a.1 b)

address-first : (all : List Cell) (a : ℕ) (cell : Cell) → first_with all a ≡ Some cell → cell.address ≡ a
address-first [] a cell is = let no : None ≡ Some cell = is in cc
address-first (c ∷ all) a cell is = by (address-first all a cell) (c.address == a) refl is
  where
    by : (first_with all a ≡ Some cell → cell.address ≡ a) → (same : Bool) → (c.address == a) ≡ same → cond same (Some c) (first_with all a) ≡ Some cell → cell.address ≡ a
    by rest true same found = ap (λ (d : Cell). d.address) (sym (same_Some c cell found)) ∙ eqb-true c.address a same
    by rest false other found = rest found

pub firsts-more : (all cells : List Cell) (a : ℕ) → AreFirstLines all cells → AreFirstLines all (cells ++ option_to_list (first_with all a))
firsts-more all cells a firsts = record { each = each-append all cells (option_to_list (first_with all a)) firsts.each (by (first_with all a) refl) }
  where
    by : (found : Option Cell) → first_with all a ≡ found → EachFirst all (option_to_list found)
    by None is = tt
    by (Some cell) is = (ap (first_with all) (address-first all a cell is) ∙ is, tt)
