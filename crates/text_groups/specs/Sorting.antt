-- Rows by their size, the largest first.
use Rattle.std.specs.Prelude.{ℕ, nat_lt, List, [], ◌∷◌, if◌then◌else◌}

-- puts a row before the first that is no larger
abbrev pub put_row : {X : Type 0} → (X → ℕ) → X → List X → List X
put_row size x [] = x ∷ []
put_row size x (y ∷ rows) = if nat_lt (size x) (size y) then y ∷ put_row size x rows else x ∷ (y ∷ rows)

-- the rows by their size, the largest first; rows of the same size stay in their order
abbrev pub most_first : {X : Type 0} → (X → ℕ) → List X → List X
most_first size [] = []
most_first size (x ∷ rows) = put_row size x (most_first size rows)
