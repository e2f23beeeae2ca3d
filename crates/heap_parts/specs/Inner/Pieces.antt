-- A line that is read in pieces.
use Rattle.std.specs.Prelude.{◌≡◌, ℕ, ◌<◌, ◌≤◌, List, ◌++◌, length, take, Option, None, Some}
use Rattle.heap_parts.specs.Places.{first_raw}

-- whatever stands behind these bytes, the first line begins with them
pub record BeginsLine (front : List ℕ) : Type 0 where
  pub begins : (more : List ℕ) → first_raw (front ++ more) ≡ front ++ first_raw more

-- whatever stands behind these bytes, they are the first line
pub record IsFirstLine (line : List ℕ) : Type 0 where
  pub whole : (more : List ℕ) → first_raw (line ++ more) ≡ line

-- the first line of what a piece begins ends in the piece, or the whole piece is of it
abbrev pub IsCutAt : List ℕ → Option ℕ → Type 0
IsCutAt piece None = BeginsLine piece
IsCutAt piece (Some n) = (0 < n) × (n ≤ length piece) × IsFirstLine (take n piece)
