-- A byte by the character that it stands for.
use Rattle.std.specs.Prelude.{ℕ, List, [], ◌∷◌}

-- the byte of a text of one character
abbrev pub letter : List ℕ → ℕ
letter [] = 0
letter (c ∷ text) = c
