-- Numbers at the beginning of a text.
use Rattle.std.specs.Prelude.{ℕ, List, [], ◌∷◌, Option, None, Some, if◌then◌else◌}
use Rattle.std.specs.Char.{is_ascii_digit}
use Rattle.link_graph.specs.Texts.{is_dot}

-- what stands after the dot that follows the digits, of which there may be none
abbrev pub behind_digits : List ℕ → Option (List ℕ)
behind_digits [] = None
behind_digits (c ∷ text) = if is_ascii_digit c then behind_digits text else (if is_dot c then Some text else None)

-- what stands after a number and its dot, if the text begins with them
abbrev pub behind_number : List ℕ → Option (List ℕ)
behind_number [] = None
behind_number (c ∷ text) = if is_ascii_digit c then behind_digits text else None
