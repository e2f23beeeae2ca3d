-- Numbers of cells that ascend.
use Rattle.std.proofs.Common.{◌≡◌, ℕ, ◌<◌, ◌==◌, false, true, List, length, get_or, Some, refl, sym, ◌∙◌, ap, arith}
use Rattle.std.specs.Prelude.{map, slice_index_or, Contains}
use Rattle.std.specs.Option.{option_map_or}
use Rattle.std.specs.List.Sorted.{IsStrictlyIncreasing}
use Rattle.std.proofs.lemmas.Bool.{false_from_ne_true, eqb-true, eq-eqb}
use Rattle.std.proofs.lemmas.List.{get_or-map, get_or_default}
use Rattle.std.proofs.lemmas.List.Kept.{AllPairs-from_increasing}
use Rattle.std.proofs.lemmas.Option.{slice_get-get_or}
use Rattle.dump_io.specs.Laws.Lists.{position-at}
use Rattle.tuple_fronts.specs.CellSets.{place_of}

-- a number differs from another
pub other : (m n : ℕ) → (m ≡ n → ⊥) → (m == n) ≡ false
other m n differ = false_from_ne_true (m == n) (λ is. differ (eqb-true m n is))

-- each number is itself
same : (n : ℕ) → (n == n) ≡ true
same n = eq-eqb n n refl

-- the place of a number that stands at one
pub found-place : (xs : List ℕ) (x i : ℕ) → IsStrictlyIncreasing xs → i < length xs → get_or xs i 0 ≡ x → Some i ≡ place_of xs x
found-place xs x i rising inside is =
    sym (position-at (λ m. m == x) xs 0 i x
    (λ k below. other (get_or xs k 0) x (λ same. omega (arith, AllPairs-from_increasing xs rising k i 0 below inside, same, is)))
    (slice_get-get_or xs i 0 inside ∙ ap Some is)
    (same x))

-- what a list of images has at the place of a number
pub at-place : {X : Type 0} (f : ℕ → X) (xs : List ℕ) (n : ℕ) (past : X) → IsStrictlyIncreasing xs → Contains xs n → option_map_or (λ i. slice_index_or (map f xs) i past) (place_of xs n) past ≡ f n
at-place f xs n past rising (i, inside, is) =
    let here : get_or xs i 0 ≡ n = get_or_default xs i 0 n inside ∙ is in
    ap (λ o. option_map_or (λ i. slice_index_or (map f xs) i past) o past) (sym (found-place xs n i rising inside here))
    ∙ get_or-map f xs i n past inside
    ∙ ap f is
