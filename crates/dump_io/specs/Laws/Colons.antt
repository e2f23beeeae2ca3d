-- The first colon of a text.
use Rattle.std.proofs.Common.{◌≡◌, ℕ, ◌<◌, true, false, List, [], ◌∷◌, ◌++◌, length, refl, arith}
use Rattle.std.specs.Prelude.{◌||◌}
use Rattle.std.specs.List.{position_or_len}
use Rattle.std.proofs.lemmas.Bool.{cases_lt}
use Rattle.std.proofs.lemmas.List.Elements.{All-from_get_or}
use Rattle.std.proofs.lemmas.List.Folds.{list_any_none}
use Rattle.std.proofs.lemmas.List.Sums.{fails_before_first}
use Rattle.dump_io.specs.Colons.{colon, is_colon, has_colon}

-- a text that has a colon has its first one
pub colon-within : (text : List ℕ) → has_colon text ≡ true → position_or_len is_colon text < length text
colon-within text has = grind (arith, list_any_none, All-from_get_or, fails_before_first, cases_lt)

-- a colon anywhere is one
pub has_colon-at : (front rest : List ℕ) → has_colon (front ++ colon ∷ rest) ≡ true
has_colon-at [] rest = refl
has_colon-at (c ∷ front) rest =
    elim (is_colon c) as (λ b. (b || has_colon (front ++ colon ∷ rest)) ≡ true) [ true ↦ refl | false ↦ has_colon-at front rest ]
