-- What is left of a list's text while it is cut into its parts.
use Rattle.std.specs.Prelude.{ℕ, ◌-◌, ◌≤◌, List, [], length, Option, IfSome}
use Rattle.std.specs.Option.{option_map_or}
use Rattle.link_graph.specs.Entries.{Part, cut, parts_from}
use Rattle.link_graph.specs.declared.list_parts.Piece.{Piece}

-- the parts of a rest, if there is one
abbrev pub cut_rest : Option (List ℕ) → List (List ℕ)
cut_rest rest = option_map_or cut rest []

-- the parts of a rest that ends at the offset
abbrev pub parts_left : ℕ → Option (List ℕ) → List Part
parts_left end rest = option_map_or (λ bytes. parts_from (end - length bytes) (cut bytes)) rest []

-- a rest has at most as many bytes as stand before the offset
abbrev pub EndsBy : ℕ → Option (List ℕ) → Type 0
EndsBy end rest = IfSome rest (λ bytes. length bytes ≤ end)

-- the value of a part
abbrev pub shown_piece : Piece → Part
shown_piece piece = record { at = piece.at; text = piece.text.now }
