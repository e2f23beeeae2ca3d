-- Steps from number to number.
use Rattle.std.specs.Prelude.{ℕ, zero, suc, Bool, false, ◌||◌, ◌==◌, List, [], ◌∷◌, ◌++◌, Option, None, Some, option_and_then, option_map, if◌then◌else◌}
use Rattle.std.specs.Option.{option_map_or}

-- the numbers below this one, in order
abbrev pub upto : ℕ → List ℕ
upto zero = []
upto (suc n) = upto n ++ n ∷ []

-- whether a number passes the test, or one to which the next n - 1 steps lead from it
abbrev pub some_within : (ℕ → Option ℕ) → (ℕ → Bool) → ℕ → ℕ → Bool
some_within next test zero r = false
some_within next test (suc n) r = test r || option_map_or (λ s. some_within next test n s) (next r) false

-- the numbers from r on, if n steps or fewer lead from one to the next and from the last one to `home`
abbrev pub way_within : (ℕ → Option ℕ) → ℕ → ℕ → ℕ → Option (List ℕ)
way_within next home zero r = None
way_within next home (suc n) r =
    option_and_then (λ s. if s == home then Some (r ∷ []) else option_map (λ way. r ∷ way) (way_within next home n s)) (next r)
