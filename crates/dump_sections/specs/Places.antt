-- The first place of each key.
use Rattle.std.specs.Prelude.{ℕ, List, find, Option}
use Rattle.std.specs.Option.{option_map}
use Rattle.std.specs.Ordering.{is_eq}
use Rattle.std.specs.declared.cmp.Ordering.{Ordering}

-- the place beside the first key that this order doesn't tell apart from a key
abbrev pub place_by : {K : Type 0} → (K → K → Ordering) → K → List (K × ℕ) → Option ℕ
place_by cmp key pairs = option_map (λ pair. pair.1) (find (λ pair. is_eq (cmp pair.0 key)) pairs)
