-- The place of the first element that passes a test.
use Rattle.std.proofs.Common.{◌≡◌, ℕ, Bool, true, false, List, [], ◌∷◌, ◌++◌, length, not, is_some, get_or, slice_get, None, Some, arith}
use Rattle.std.specs.Prelude.{position}
use Rattle.std.specs.List.{list_any}
use Rattle.std.proofs.lemmas.Grind.{common_steps}
use Rattle.std.proofs.lemmas.List.Folds.{position_or_len_push}
use Rattle.std.proofs.lemmas.List.Quantifiers.{position-Some}
use Rattle.std.proofs.lemmas.Option.{slice_get-get_or}

-- the element at that place
pub position-holds : {X : Type 0} (p : X → Bool) (xs : List X) (n : ℕ) → position p xs ≡ Some n → (x : X) × (slice_get xs n ≡ Some x) × (p x ≡ true)
position-holds p [] n is = cc
position-holds p (x ∷ xs) n is =
    let found = position-Some p (x ∷ xs) n x is in
    (get_or (x ∷ xs) n x, slice_get-get_or (x ∷ xs) n x found.0, found.1)

-- one more element
pub position-push-new : {X : Type 0} (p : X → Bool) (xs : List X) (x : X) → position p xs ≡ None → p x ≡ true → position p (xs ++ x ∷ []) ≡ Some (length xs)
position-push-new p xs x none own = grind (arith, common_steps, position_or_len_push, Rattle.std.proofs.lemmas.List.Sums.prefix_len-le-length (λ y. not (p y)) xs)

pub position-push-there : {X : Type 0} (p : X → Bool) (xs : List X) (x : X) (n : ℕ) → position p xs ≡ Some n → position p (xs ++ x ∷ []) ≡ Some n
position-push-there p xs x n is = grind (arith, common_steps, position_or_len_push)

pub position-push-other : {X : Type 0} (p : X → Bool) (xs : List X) (x : X) → p x ≡ false → position p (xs ++ x ∷ []) ≡ position p xs
position-push-other p xs x other = grind (arith, common_steps, position_or_len_push)

-- whether one passes
pub some-position : {X : Type 0} (p : X → Bool) (xs : List X) → is_some (position p xs) ≡ list_any p xs
some-position p [] = grind (arith, common_steps)
some-position p (x ∷ xs) = grind (arith, common_steps, some-position p xs)
