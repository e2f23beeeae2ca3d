-- The first `binary` section of each address is found one section after another.
use Rattle.std.proofs.Common.{◌≡◌, ℕ, ◌<◌, ◌&&◌, ◌⊎◌, Bool, true, false, List, [], ◌∷◌, ◌++◌, length, Option, None, Some, sym, ◌∙◌, ap, subst, arith, if◌then◌else◌}
use Rattle.std.specs.Prelude.{IfSome, codes, nat_eq}
use Rattle.std.specs.Option.{option_and_then, option_eq, option_or}
use Rattle.std.specs.Ordering.{is_eq, nat_cmp}
use Rattle.std.proofs.lemmas.Bool.{cases_order}
use Rattle.std.proofs.lemmas.Bool.Decides.{nat_tests}
use Rattle.dump_io.specs.Laws.Lists.{position-within}
use Rattle.dump_io.specs.Laws.Options.{or-none}
use Rattle.dump_io.specs.Numbers.{hex_number}
use Rattle.dump_sections.specs.Laws.{position-last}
use Rattle.dump_sections.specs.Lookups.{has_hex, has_tag, place_where}
use Rattle.dump_sections.specs.Sections.{Section, id_of}
use Rattle.dump_sections.specs.PlaceLaws.{place_by-more}
use Rattle.binary_refs.specs.StoredBinaries.{binary_number}
use Rattle.binary_refs.specs.Inner.Places.{AreFirsts}

-- the order of numbers tells apart those that aren't equal
same : (k n : ℕ) → is_eq (nat_cmp k n) ≡ nat_eq k n
same k n = by (cases_order k n)
  where
    by : (k ≡ n) ⊎ ((k < n) ⊎ (n < k)) → is_eq (nat_cmp k n) ≡ nat_eq k n
    by o = grind (arith, nat_tests)

other : (b : Bool) (o : Option ℕ) (n : ℕ) → (if b then o else None) ≡ None → (b && option_eq nat_eq o (Some n)) ≡ false
other b o n none = grind arith

this : (b : Bool) (o : Option ℕ) (k n : ℕ) → (if b then o else None) ≡ Some k → (b && option_eq nat_eq o (Some n)) ≡ nat_eq k n
this true o k n is = ap (λ o. option_eq nat_eq o (Some n)) is
this false o k n is = absurd (let no : ⊥ = cc (is) in no)

-- the first of them, with one section more
first-last : (before : List Section) (s : Section) (n : ℕ)
    → place_where (has_hex (codes "binary") n) (before ++ s ∷ [])
    ≡ option_or (place_where (has_hex (codes "binary") n) before) (if has_hex (codes "binary") n s.text then Some (length before) else None)
first-last before s n = position-last (λ (section : Section). has_hex (codes "binary") n section.text) before s

-- a section that is none of a binary is passed over
pub AreFirsts-passed : (places : List (ℕ × ℕ)) (before : List Section) (s : Section) → AreFirsts before places → binary_number s ≡ None
    → AreFirsts (before ++ s ∷ []) places
AreFirsts-passed places before s are none n =
    are n ∙ sym (or-none (place_where (has_hex (codes "binary") n) before))
    ∙ ap (λ b. option_or (place_where (has_hex (codes "binary") n) before) (if b then Some (length before) else None))
    (sym (other (has_tag (codes "binary") s.text) (option_and_then hex_number (id_of s.text)) n none))
    ∙ sym (first-last before s n)

-- another is taken
pub AreFirsts-more : (places : List (ℕ × ℕ)) (before : List Section) (s : Section) (k : ℕ) → AreFirsts before places → binary_number s ≡ Some k
    → AreFirsts (before ++ s ∷ []) (places ++ (k, length before) ∷ [])
AreFirsts-more places before s k are is n =
    place_by-more nat_cmp n places k (length before)
    ∙ ap (λ o. option_or o (if is_eq (nat_cmp k n) then Some (length before) else None)) (are n)
    ∙ ap (λ b. option_or (place_where (has_hex (codes "binary") n) before) (if b then Some (length before) else None))
    (same k n ∙ sym (this (has_tag (codes "binary") s.text) (option_and_then hex_number (id_of s.text)) k n is))
    ∙ sym (first-last before s n)

-- a place that is found is that of a section
pub first-within : (sections : List Section) (size n : ℕ) → length sections ≡ size → IfSome (place_where (has_hex (codes "binary") n) sections) (λ i. i < size)
first-within sections size n is =
    subst (λ m. IfSome (place_where (has_hex (codes "binary") n) sections) (λ i. i < m)) is (position-within (λ section. has_hex (codes "binary") n section.text) sections)
