-- A number's plain spelling writes that number.
use Rattle.std.proofs.Common.{◌≡◌, ℕ, ◌^◌, ◌<◌, true, List, [], ◌∷◌, Some, refl, ◌∙◌, ap, arith}
use Rattle.std.specs.List.{list_all}
use Rattle.std.specs.Char.{digit_value}
use Rattle.std.specs.Str.Parse.{AllDigits}
use Rattle.std.proofs.lemmas.Bool.{and_from, lt-ltb}
use Rattle.std.proofs.lemmas.Fmt.{digits_is_IsNumeral}
use Rattle.dump_io.specs.Numbers.{hex_number, hexadecimal as hex}
use Rattle.dump_io.specs.Laws.Digits.{length-hexadecimal-le}
use Rattle.dump_io.specs.Laws.HexNumbers.{hex_number-digits}
use Rattle.term_forms.specs.Words.{is_hex_digit}

are_hex : (text : List ℕ) → AllDigits 16 text → list_all is_hex_digit text ≡ true
are_hex [] h = refl
are_hex (c ∷ text) h = and_from (is_hex_digit c) (list_all is_hex_digit text) (lt-ltb (digit_value c) 16 h.0) (are_hex text h.1)

-- the plain spelling writes the number
pub hex_plain : (n : ℕ) → n < 2 ^ 64 → hex_number (hex n) ≡ Some n
hex_plain n below =
    let is = digits_is_IsNumeral 16 true (omega arith) (omega arith) n (omega (arith, below)) in
    hex_number-digits (hex n) (omega (arith, is.0.0)) (length-hexadecimal-le 16 n (omega arith) (omega (arith, below))) (are_hex (hex n) is.0.1) ∙ ap Some is.1
