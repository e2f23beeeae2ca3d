-- Laws of the definitions, each with its proof, for the proofs of callers.
use Rattle.std.proofs.Common.{◌≡◌, ℕ, true, false, cond, List, [], ◌∷◌, ◌++◌, None, Some, refl, if◌then◌else◌}
use Rattle.std.specs.Prelude.{find}
use Rattle.std.specs.Option.{option_map, option_or}
use Rattle.std.specs.Ordering.{is_eq}
use Rattle.std.specs.declared.cmp.Ordering.{Ordering}
use Rattle.dump_sections.specs.Places.{place_by}

-- the first place of a key, with one pair more
pub place_by-more : {K : Type 0} (R : K → K → Ordering) (key : K) (pairs : List (K × ℕ)) (k : K) (n : ℕ)
    → place_by R key (pairs ++ (k, n) ∷ []) ≡ option_or (place_by R key pairs) (if is_eq (R k key) then Some n else None)
place_by-more R key [] k n = elim (is_eq (R k key)) as (λ b. option_map (λ (p : _ × ℕ). p.1) (cond b (Some (k, n)) None) ≡ (if b then Some n else None)) [ true ↦ refl | false ↦ refl ]
place_by-more R key (pair ∷ pairs) k n =
    elim (is_eq (R pair.0 key)) as (λ b. option_map (λ (p : _ × ℕ). p.1) (cond b (Some pair) (find (λ (p : _ × ℕ). is_eq (R p.0 key)) (pairs ++ (k, n) ∷ [])))
    ≡ option_or (option_map (λ (p : _ × ℕ). p.1) (cond b (Some pair) (find (λ (p : _ × ℕ). is_eq (R p.0 key)) pairs))) (if is_eq (R k key) then Some n else None))
    [ true ↦ refl | false ↦ place_by-more R key pairs k n ]
