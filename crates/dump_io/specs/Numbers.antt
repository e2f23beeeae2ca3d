-- The numbers of a dump's text: digits alone, so that a sign or a space is refused. Leading zeros are accepted.
use Rattle.std.specs.Prelude.{ℕ, ◌^◌, ◌/◌, ◌%◌, Bool, true, ◌&&◌, List, [], ◌∷◌, length, Option, None, Some, nat_le, nat_lt, if◌then◌else◌}
use Rattle.std.specs.Fmt.{digit_glyph, digits}
use Rattle.std.specs.List.{list_all}
use Rattle.std.specs.Char.{digit_value, is_ascii_digit}
use Rattle.std.specs.Str.Parse.{digits_value}

-- one or more decimal digits
abbrev pub is_digits : List ℕ → Bool
is_digits text = nat_lt 0 (length text) && list_all is_ascii_digit text

-- whether a byte is a hex digit of either case
abbrev pub is_hex_digit : ℕ → Bool
is_hex_digit c = nat_lt (digit_value c) 16

-- whether the text is 1 to `most` digits of the base and writes a number below 2^64
abbrev pub is_numeral : ℕ → ℕ → List ℕ → Bool
is_numeral base most text =
    nat_le 1 (length text) && nat_le (length text) most
    && list_all (λ c. nat_lt (digit_value c) base) text && nat_lt (digits_value base text) (2 ^ 64)

-- the number that the text writes, if it is a numeral
abbrev pub number_of : ℕ → ℕ → List ℕ → Option ℕ
number_of base most text = if is_numeral base most text then Some (digits_value base text) else None

-- hex: 1 to 16 digits of `0`-`9`, `A`-`F` and `a`-`f`
abbrev pub hex_number : List ℕ → Option ℕ
hex_number text = number_of 16 16 text

-- decimal: 1 to 20 digits of `0`-`9`, with a value below 2^64
abbrev pub dec_number : List ℕ → Option ℕ
dec_number text = number_of 10 20 text

-- a number in upper-case hex without leading zeros; std's `decimal` is the same in decimal
abbrev pub hexadecimal : ℕ → List ℕ
hexadecimal n = digits 16 true n

-- a byte as two upper-case hex digits
abbrev pub hex_byte : ℕ → List ℕ
hex_byte c = digit_glyph true (c / 16) ∷ digit_glyph true (c % 16) ∷ []
