-- The words of which elements and forms are made.
use Rattle.std.specs.Prelude.{◌≡◌, ℕ, ◌<◌, ◌==◌, Bool, false, ◌&&◌, ◌||◌, List, [], ◌∷◌, ◌++◌, length, drop, codes, Option, None, Some, option_and_then, nat_eq, nat_lt, IsTrue, if◌then◌else◌}
use Rattle.std.specs.List.{list_all, starts_with}
use Rattle.std.specs.Char.{is_ascii_digit}
use Rattle.dump_io.specs.Colons.{has_colon, before_colon, after_colon}
use Rattle.dump_io.specs.Letters.{letter}
use Rattle.dump_io.specs.Numbers.{hex_number, is_digits}
pub use Rattle.dump_io.specs.Colons.{colon}
pub use Rattle.dump_io.specs.Numbers.{is_hex_digit}

-- the byte `,`
abbrev pub comma : ℕ
comma = letter (codes ",")

-- the byte `|`
abbrev pub bar : ℕ
bar = letter (codes "|")

-- an optional minus, and digits
abbrev pub is_integer : List ℕ → Bool
is_integer [] = false
is_integer (c ∷ text) = if c == letter (codes "-") then is_digits text else is_digits (c ∷ text)

-- a byte of the number of a pid or a port
abbrev pub is_number_byte : ℕ → Bool
is_number_byte c = is_ascii_digit c || c == letter (codes ".")

-- `<`, one or more of `0` to `9` and `.`, and `>`
abbrev pub IsBracketed : List ℕ → Type 0
IsBracketed text =
    (inner : List ℕ) × (0 < length inner) × IsTrue (list_all is_number_byte inner) × (text ≡ codes "<" ++ (inner ++ codes ">"))

-- the text is a hex number n, a colon, and the rest
abbrev pub IsLed : List ℕ → ℕ → List ℕ → Type 0
IsLed text n rest = (hex : List ℕ) × (hex_number hex ≡ Some n) × (text ≡ hex ++ colon ∷ rest)

-- the number before the first colon and what follows that colon, if the
-- text has a colon and such a number stands before it; the law `number_is_read` connects the two
unfoldable pub led_of : List ℕ → Option (ℕ × List ℕ)
led_of text = if has_colon text then option_and_then (λ n. Some (n, after_colon text)) (hex_number (before_colon text)) else None

-- one or more hex digits
abbrev pub is_hex_digits : List ℕ → Bool
is_hex_digits text = nat_lt 0 (length text) && list_all is_hex_digit text

-- `16#` and hex digits
abbrev pub is_based : List ℕ → Bool
is_based text = starts_with nat_eq text (codes "16#") && is_hex_digits (drop 3 text)

-- a big integer: an optional minus, and then digits, or `16#` and hex digits
abbrev pub is_long : List ℕ → Bool
is_long [] = false
is_long (c ∷ text) =
    if c == letter (codes "-") then is_digits text || is_based text else is_digits (c ∷ text) || is_based (c ∷ text)
