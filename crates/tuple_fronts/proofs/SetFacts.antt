-- Numbers that ascend.
use Rattle.std.proofs.Common.{◌≡◌, ℕ, ◌<◌, ◌≤◌, ◌==◌, List, [], length, get_or, map, None, Some, inl, inr, sym, ◌∙◌, ap, arith}
use Rattle.std.specs.Prelude.{slice_get}
use Rattle.std.specs.List.Sorted.{IsStrictlyIncreasing}
use Rattle.std.proofs.lemmas.List.{get_or-map, get_or_default}
use Rattle.std.proofs.lemmas.List.Quantifiers.{position-Some}
use Rattle.std.proofs.lemmas.Map.Keys.{non_decreasing_from_sorted, sorted_from_strictly_increasing}
use Rattle.std.proofs.lemmas.Option.{get_or_from_slice_get}
use Rattle.std.proofs.lemmas.Bool.{eqb-true, cases_lt}
use Rattle.dump_io.specs.Laws.Lists.{position-none}
use Rattle.tuple_fronts.specs.CellSets.{place_of}
use Rattle.tuple_fronts.specs.Laws.CellSets.{other}

-- there is none of a number that is above those before a place and below the others
pub other-place : (xs : List ℕ) (x i : ℕ) → IsStrictlyIncreasing xs → ((k : ℕ) → k < i → get_or xs k 0 < x) → ((k : ℕ) → i ≤ k → k < length xs → x < get_or xs k 0) → None ≡ place_of xs x
other-place xs x i rising below above =
    sym (position-none (λ m. m == x) xs (λ k d inside.
    let here : get_or xs k d ≡ get_or xs k 0 = get_or_default xs k d 0 inside in
    other (get_or xs k d) x (λ is. elim (cases_lt k i) [
      | inl before ↦ omega (arith, below k before, here, is)
      | inr behind ↦ omega (arith, above k behind inside, here, is)
    ])))

-- what a search says of numbers that ascend
pub not-falling : (xs : List ℕ) → IsStrictlyIncreasing xs → (i j : ℕ) → i ≤ j → j < length xs → get_or xs i 0 ≤ get_or xs j 0
not-falling xs rising i j before inside = non_decreasing_from_sorted xs (sorted_from_strictly_increasing xs rising) i j 0 before inside

-- what stands for a number that is found at a place
pub found-image : (f : ℕ → List ℕ) (xs : List ℕ) (x i : ℕ) (images : List (List ℕ)) (image : List ℕ) → Some i ≡ place_of xs x → images ≡ map f xs → slice_get images i ≡ Some image → image ≡ f x
found-image f xs x i images image place are at =
    let found = position-Some (λ m. m == x) xs i 0 (sym place) in
    sym (get_or_from_slice_get (map f xs) i image [] (ap (λ l. slice_get l i) (sym are) ∙ at))
    ∙ get_or-map f xs i 0 [] found.0
    ∙ ap f (eqb-true (get_or xs i 0) x found.1)
