-- The parts of a text before and after its first colon.
use Rattle.std.specs.Prelude.{◌≡◌, ℕ, ◌==◌, Bool, true, false, List, codes, Option, None, Some}
use Rattle.std.specs.List.{list_any, before_first, after_first}
use Rattle.dump_io.specs.Letters.{letter}
use denote.Ref.{Bor}

-- the byte `:`
abbrev pub colon : ℕ
colon = letter (codes ":")

-- whether a byte is a colon
abbrev pub is_colon : ℕ → Bool
is_colon c = c == colon

-- whether the text has a colon
abbrev pub has_colon : List ℕ → Bool
has_colon text = list_any is_colon text

-- what stands before the first colon, or the whole text if there is none
abbrev pub before_colon : List ℕ → List ℕ
before_colon text = before_first is_colon text

-- what follows the first colon
abbrev pub after_colon : List ℕ → List ℕ
after_colon text = after_first is_colon text

-- the parts before and after the first colon, or `None` if the text has no colon
abbrev pub SplitsAtColon : List ℕ → Option (Bor (List ℕ) × Bor (List ℕ)) → Type 0
SplitsAtColon text None = (has_colon text ≡ false) × (before_colon text ≡ text)
SplitsAtColon text (Some parts) =
    (has_colon text ≡ true) × (parts.0.now ≡ before_colon text) × (parts.1.now ≡ after_colon text)
