-- The fields of a body: its lines with a colon.
use Rattle.std.specs.Prelude.{ℕ, ◌+◌, ◌-◌, ◌==◌, Bool, ◌&&◌, List, [], ◌∷◌, length, codes, Option, None, Some, find, option_map, if◌then◌else◌}
use Rattle.std.specs.Str.{bytes_eq}
use Rattle.dump_io.specs.Colons.{has_colon, before_colon, after_colon}
use Rattle.dump_io.specs.Letters.{letter}
use Rattle.field_lines.specs.declared.shapes.FieldAt.{FieldAt}
use Rattle.field_lines.specs.Lines.{TextLine, text_lines}

-- the byte of a space
abbrev pub space_byte : ℕ
space_byte = letter (codes " ")

-- bytes without one leading space
abbrev pub without_space : List ℕ → List ℕ
without_space [] = []
without_space (c ∷ bytes) = if c == space_byte then bytes else c ∷ bytes

-- a field's key stands before the first colon of its line
abbrev pub key_of : List ℕ → List ℕ
key_of text = before_colon text

-- the value of a line is what follows its first colon, less one space
abbrev pub value_of : List ℕ → List ℕ
value_of text = without_space (after_colon text)

-- the key and the value of a line
pub record Field : Type 0 where
  pub key : List ℕ
  pub value : List ℕ

-- the field of a text, if the text has a colon
abbrev pub field_of : List ℕ → Option Field
field_of text = if has_colon text then Some (record { key = key_of text; value = value_of text }) else None

-- whether the line is a field with this key
abbrev pub has_key : List ℕ → TextLine → Bool
has_key key line = has_colon line.text && bytes_eq (key_of line.text) key

-- the first field line with this key
abbrev pub find_line : List ℕ → List ℕ → Option TextLine
find_line body key = find (has_key key) (text_lines body)

-- where the line begins, and where its value begins and ends: the value ends with the line's text
abbrev pub place_of : TextLine → FieldAt
place_of line = let upto = line.at + length line.text in record { at = line.at; from = upto - length (value_of line.text); upto = upto }

-- the place of the first field with this key
abbrev pub find_field : List ℕ → List ℕ → Option FieldAt
find_field body key = option_map place_of (find_line body key)

-- the value of the first field with this key
abbrev pub find_value : List ℕ → List ℕ → Option (List ℕ)
find_value body key = option_map (λ line. value_of line.text) (find_line body key)
