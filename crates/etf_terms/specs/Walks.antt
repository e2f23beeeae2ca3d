-- Where a walk over bytes ends that counts how many terms are still to come.
use Rattle.std.specs.Prelude.{ℕ, zero, suc, ◌+◌, ◌-◌, ◌==◌, List, [], ◌∷◌, length, Option, None, Some, if◌then◌else◌}
use Rattle.std.specs.Option.{option_map}
use Rattle.etf_terms.specs.Heads.{kids}
use Rattle.etf_terms.specs.Layouts.{Layout, end, byte}
use Rattle.etf_terms.specs.Table.{is_tag, row, head_layout}

-- what a walk results in: the bytes after all terms, or the bytes from the first that isn't allowed there
pub data Walked : Type 0 where
  Done : List ℕ → Walked
  Lost : List ℕ → Walked

-- before these bytes a walk is done if no term is still to come; otherwise one term begins, and the others come after it
abbrev pub done_or : ℕ → List ℕ → (ℕ → Walked) → Walked
done_or zero bytes next = Done bytes
done_or (suc n) bytes next = next n

-- what a walk finds that goes on with the rest of a head and then with this many terms after those of the head
abbrev pub walk : Layout → ℕ → List ℕ → Walked
walk (end head) n [] = done_or (kids head + n) [] (λ m. Lost [])
walk (end head) n (b ∷ bytes) = done_or (kids head + n) (b ∷ bytes) (λ m. if is_tag b then walk (row b) m bytes else Lost (b ∷ bytes))
walk (byte test next) n [] = Lost []
walk (byte test next) n (b ∷ bytes) = if test b then walk (next b) n bytes else Lost (b ∷ bytes)

-- what a walk over this many terms finds
abbrev pub walk_terms : ℕ → List ℕ → Walked
walk_terms n bytes = done_or n bytes (λ m. walk head_layout m bytes)

-- how many bytes are left where a walk over one term ends, unless it ends at their end
abbrev pub left_of : Walked → Option ℕ
left_of (Done []) = None
left_of (Done (b ∷ rest)) = Some (length (b ∷ rest))
left_of (Lost rest) = Some (length rest)

-- the place where bytes cease to begin an external term, if they aren't one
abbrev pub bad_place : List ℕ → Option ℕ
bad_place [] = Some 0
bad_place (b ∷ bytes) = if b == 131 then option_map (λ left. suc (length bytes) - left) (left_of (walk_terms 1 bytes)) else Some 0
