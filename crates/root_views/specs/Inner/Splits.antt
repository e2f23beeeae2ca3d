-- Splitting a text at its last colon.
use Rattle.std.specs.Prelude.{◌≡◌, ℕ, true, false, List, Option, None, Some}
use Rattle.std.specs.List.{before_last, after_last}
use Rattle.dump_io.specs.Colons.{is_colon, has_colon}
use denote.Ref.{Bor}

-- the parts before and after the last colon, or `None` if the text has no colon
abbrev pub SplitsAtLast : List ℕ → Option (Bor (List ℕ) × Bor (List ℕ)) → Type 0
SplitsAtLast text None = has_colon text ≡ false
SplitsAtLast text (Some parts) =
    (has_colon text ≡ true) × (parts.0.now ≡ before_last is_colon text) × (parts.1.now ≡ after_last is_colon text)
