-- The first of several rows, and rows with their numbers.
use Rattle.std.proofs.Common.{◌≡◌, ℕ, zero, suc, ◌+◌, ◌<◌, ◌∙◌, List, [], ◌∷◌, take, Some, ap, arith}
use Rattle.std.specs.Prelude.{slice_get}
use Rattle.std.specs.List.{enumerate_from}

-- one of them stands where it stands among all
pub row-at : {X : Type 0} (xs : List X) (n i : ℕ) (x : X) → i < n → slice_get xs i ≡ Some x → slice_get (take n xs) i ≡ Some x
row-at [] n i x few is = cc
row-at (y ∷ xs) zero i x few is = absurd (omega (arith, few))
row-at (y ∷ xs) (suc n) zero x few is = is
row-at (y ∷ xs) (suc n) (suc i) x few is = row-at xs n i x (omega (arith, few)) is

-- what stands at a place has a number as much above the first one
pub numbered-at : {X : Type 0} (n : ℕ) (xs : List X) (i : ℕ) (x : X) → slice_get xs i ≡ Some x → slice_get (enumerate_from n xs) i ≡ Some (n + i, x)
numbered-at n [] i x is = cc
numbered-at n (y ∷ xs) zero x is = grind (arith, is)
numbered-at n (y ∷ xs) (suc i) x is =
    let next : (n + 1) + i ≡ n + suc i = omega arith in numbered-at (n + 1) xs i x is ∙ ap (λ k. Some (k, x)) next
