-- Cutting an internal state into its words one after another.
use Rattle.std.specs.Prelude.{ℕ, List, [], ◌∷◌}
use Rattle.process_table.specs.Signals.{in_front, words_behind}

-- the words behind one that ends before these bytes, which begin with a separator; none if no byte is left
abbrev pub words_left : List ℕ → List (List ℕ)
words_left [] = []
words_left (c ∷ rest) = words_behind 2 rest

-- puts bytes in front of the first of some words
abbrev pub behind : List ℕ → List (List ℕ) → List (List ℕ)
behind [] words = words
behind (c ∷ front) words = in_front c (behind front words)
