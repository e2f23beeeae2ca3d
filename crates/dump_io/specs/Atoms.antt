-- How an atom is written in a report.
use Rattle.std.specs.Prelude.{ℕ, ◌==◌, Bool, false, ◌&&◌, ◌||◌, List, [], ◌∷◌, ◌++◌, codes, slice_get, nat_le, nat_lt, if◌then◌else◌}
use Rattle.std.specs.List.{list_all, flat_map}
use Rattle.std.specs.Option.{option_map_or}
use Rattle.dump_io.specs.Letters.{letter}
use Rattle.dump_io.specs.Numbers.{hex_byte}

-- whether a byte is one of those from a first character to a last one
abbrev pub is_between : List ℕ → List ℕ → ℕ → Bool
is_between first last c = nat_le (letter first) c && nat_le c (letter last)

-- whether a byte is one of `a`-`z`
abbrev pub is_small_letter : ℕ → Bool
is_small_letter c = is_between (codes "a") (codes "z") c

-- whether a byte is one of `a`-`z`, `A`-`Z`, `0`-`9`, `_` and `@`
abbrev pub is_atom_byte : ℕ → Bool
is_atom_byte c =
    is_small_letter c || is_between (codes "A") (codes "Z") c || is_between (codes "0") (codes "9") c
    || c == letter (codes "_") || c == letter (codes "@")

-- whether an atom is written as it is: it begins with a small letter, and all its bytes are atom bytes
abbrev pub is_bare : List ℕ → Bool
is_bare name = option_map_or is_small_letter (slice_get name 0) false && list_all is_atom_byte name

-- the byte `'`
abbrev pub quote : ℕ
quote = letter (codes "'")

-- the byte `\`
abbrev pub backslash : ℕ
backslash = letter (codes "\\")

-- whether a byte is below 20 hex, or is 7F
abbrev pub is_control : ℕ → Bool
is_control c = nat_lt c 32 || c == 127

-- a byte of a quoted atom: `'` and `\` after a `\`, a control byte as `\x` and two hex digits, any other as it is
abbrev pub quoted_byte : ℕ → List ℕ
quoted_byte c =
    if c == quote || c == backslash then backslash ∷ c ∷ []
    else (if is_control c then codes "\\x" ++ hex_byte c else c ∷ [])

-- an atom in quotes
abbrev pub quoted_text : List ℕ → List ℕ
quoted_text name = quote ∷ [] ++ (flat_map quoted_byte name ++ quote ∷ [])

-- the text of an atom: its bytes as they are, or quoted
abbrev pub atom_text : List ℕ → List ℕ
atom_text name = if is_bare name then name else quoted_text name
