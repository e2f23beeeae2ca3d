-- The order at a worked example, which the checker computes.
use Rattle.std.proofs.Common.{◌≡◌, ℕ, [], ◌∷◌, refl}
use Rattle.text_groups.specs.Sorting.{most_first}

-- the largest stands first, and of equal ones the first
in_order : most_first (λ (row : ℕ × ℕ). row.0) ((1, 1) ∷ (2, 2) ∷ (2, 3) ∷ (0, 4) ∷ []) ≡ (2, 2) ∷ (2, 3) ∷ (1, 1) ∷ (0, 4) ∷ []
in_order = refl

-- of equal first sizes the largest second one stands first, and of equal both the first
by_both : most_first (λ (row : ℕ × ℕ × ℕ). row.0) (most_first (λ (row : ℕ × ℕ × ℕ). row.1) ((1, 9, 1) ∷ (2, 2, 2) ∷ (2, 3, 3) ∷ (2, 3, 4) ∷ [])) ≡ (2, 3, 3) ∷ (2, 3, 4) ∷ (2, 2, 2) ∷ (1, 9, 1) ∷ []
by_both = refl
