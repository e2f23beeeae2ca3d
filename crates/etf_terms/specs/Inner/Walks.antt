-- How a head is read by its layout, and what a walk in the code results in.
use Rattle.std.specs.Prelude.{◌≡◌, ℕ, List, [], ◌∷◌, length, Result, Ok, Err, if◌then◌else◌}
use Rattle.std.specs.Borrow.{Bor}
use Rattle.etf_terms.specs.Heads.{Head}
use Rattle.etf_terms.specs.Layouts.{Layout, end, byte}
use Rattle.etf_terms.specs.Walks.{Walked, Done, Lost}

-- what reading a layout results in: the head and the bytes after
-- it, or the bytes from the first that isn't allowed there
pub data Reading : Type 0 where
  Got : Head → List ℕ → Reading
  Off : List ℕ → Reading

abbrev pub reading : Layout → List ℕ → Reading
reading (end head) bytes = Got head bytes
reading (byte test next) [] = Off []
reading (byte test next) (b ∷ bytes) = if test b then reading (next b) bytes else Off (b ∷ bytes)

-- what a walk in the code results in
abbrev pub Stopped : Result (Bor (List ℕ)) ℕ → Walked → Type 0
Stopped (Ok rest) walked = walked ≡ Done rest.now
Stopped (Err left) walked = (rest : List ℕ) × (walked ≡ Lost rest) × (length rest ≡ left)
