-- The numbers that hex digits write.
use Rattle.std.proofs.Common.{◌≡◌, ℕ, ◌^◌, ◌<◌, ◌≤◌, true, List, [], ◌∷◌, length, Some, arith}
use Rattle.std.specs.List.{list_all}
use Rattle.std.specs.Char.{digit_value}
use Rattle.std.specs.Str.Parse.{digits_value, AllDigits}
use Rattle.std.proofs.Math.Nat.{pow-le-pow_right}
use Rattle.std.proofs.lemmas.Bool.{and_parts, leb-true, ltb-true}
use Rattle.std.proofs.lemmas.Int.Digits.{digits_value-lt}
use Rattle.std.proofs.lemmas.Option.{cond_some}
use Rattle.dump_io.specs.Numbers.{is_hex_digit, hex_number}

all_digits : (text : List ℕ) → list_all is_hex_digit text ≡ true → AllDigits 16 text
all_digits [] digits = tt
all_digits (c ∷ text) digits =
    let parts = and_parts (is_hex_digit c) (list_all is_hex_digit text) digits in
    (ltb-true (digit_value c) 16 parts.0, all_digits text parts.1)

-- few digits write a small number
pub digits_value-below : (text : List ℕ) (most : ℕ) → list_all is_hex_digit text ≡ true → length text ≤ most → digits_value 16 text < 16 ^ most
digits_value-below text most digits few =
    let below = digits_value-lt 16 text (all_digits text digits) in
    let all : 16 ^ length text ≤ 16 ^ most = pow-le-pow_right {n = 16} (omega arith) {i = length text} {j = most} few in
    omega (arith, below, all)

written : (text : List ℕ) → 1 ≤ length text → length text ≤ 16 → list_all is_hex_digit text ≡ true → digits_value 16 text < 2 ^ 64
    → hex_number text ≡ Some (digits_value 16 text)
written text some few digits below = grind arith

-- a number has at most 16 characters
pub hex_number-short : (text : List ℕ) (n : ℕ) → hex_number text ≡ Some n → length text ≤ 16
hex_number-short text n is =
    let all = (cond_some _ _ _ is).0 in
    let digits = (and_parts _ _ all).0 in
    let count = (and_parts _ _ digits).0 in
    leb-true _ _ (and_parts _ _ count).1

-- all of which are digits
pub hex_number-all_digits : (text : List ℕ) (n : ℕ) → hex_number text ≡ Some n → list_all is_hex_digit text ≡ true
hex_number-all_digits text n is =
    let all = (cond_some _ _ _ is).0 in
    let digits = (and_parts _ _ all).0 in
    (and_parts _ _ digits).1

-- 1 to 16 digits write a number
pub hex_number-digits : (text : List ℕ) → 1 ≤ length text → length text ≤ 16 → list_all is_hex_digit text ≡ true
    → hex_number text ≡ Some (digits_value 16 text)
hex_number-digits text some few digits =
    let below : digits_value 16 text < 2 ^ 64 = omega (arith, digits_value-below text 16 digits few) in
    written text some few digits below
