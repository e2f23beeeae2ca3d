-- Searching a text for a byte, and the texts on both sides of it.
use Rattle.std.specs.Prelude.{◌≡◌, ℕ, ◌+◌, ◌<◌, ◌≤◌, ◌==◌, true, List, length, slice_index, Option, MatchOption}
use Rattle.std.specs.Borrow.{Bor}

-- the byte at a place is this one
abbrev pub Holds : ℕ → List ℕ → ℕ → Type 0
Holds byte text k = (slice_index text k == byte) ≡ true

-- none of the bytes from one place up to another is this one
abbrev pub Nowhere : ℕ → List ℕ → ℕ → ℕ → Type 0
Nowhere byte text from upto = (k : ℕ) → from ≤ k → k < upto → ¬ Holds byte text k

-- the first place of this byte, if there is one
abbrev pub IsFirst : ℕ → List ℕ → Option ℕ → Type 0
IsFirst byte text place =
    MatchOption place (Nowhere byte text 0 (length text)) (λ k. (k < length text) × Nowhere byte text 0 k × Holds byte text k)

-- the last place of this byte, if there is one
abbrev pub IsLast : ℕ → List ℕ → Option ℕ → Type 0
IsLast byte text place =
    MatchOption place (Nowhere byte text 0 (length text)) (λ k. (k < length text) × Nowhere byte text (k + 1) (length text) × Holds byte text k)

-- two texts
abbrev pub both : Bor (List ℕ) × Bor (List ℕ) → List ℕ × List ℕ
both texts = (texts.0.now, texts.1.now)
