-- The first byte of an entry.
use Rattle.std.specs.Prelude.{ℕ, ◌==◌, Bool, false, List, [], ◌∷◌, codes}
use Rattle.dump_io.specs.Letters.{letter}

-- the text begins with `{`, as each monitor does
abbrev pub is_opened : List ℕ → Bool
is_opened [] = false
is_opened (c ∷ text) = c == letter (codes "{")
