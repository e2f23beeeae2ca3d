-- Pairs of hex digits, against the digits of bytes in upper case.
use Rattle.std.proofs.Common.{◌≡◌, ℕ, suc, ◌+◌, ◌*◌, ◌/◌, ◌%◌, ◌<◌, ◌==◌, Bool, true, List, [], ◌∷◌, slice_index, Option, Some, None, Result, Ok, Err, refl, sym, ap, ◌∙◌, arith}
use Rattle.std.specs.Char.{to_ascii_uppercase}
use Rattle.std.specs.Option.{option_map_or}
use Rattle.std.specs.Str.{str_to_ascii_uppercase}
use Rattle.std.proofs.lemmas.Bool.{eqb-true}
use Rattle.std.proofs.lemmas.Bool.Decides.{nat_tests}
use Rattle.hex.specs.Hex.{IsBytes, decode_pairs, digit_or_error, encode_with, encode_upper, hex_digit_value, pair_value, upper_digits, value_at, ◌>>=◌}
use Rattle.hex.specs.declared.error.FromHexError.{FromHexError}
use Rattle.hex.proofs.Pairs.{cons_byte, decode_pairs-ok_pair}
use Rattle.hex.proofs.HexLemmas.{IsDigits-upper_digits}
use Rattle.base64.specs.Tables.{all_below}
use Rattle.base64.proofs.Tables.{all_below_at}

-- a character that reads as a digit is that digit, but for its case
abbrev is_digit_of : ℕ → Bool
is_digit_of c = option_map_or (λ v. to_ascii_uppercase c == slice_index upper_digits v) (hex_digit_value c) true

-- the digits are ASCII
pub digit-ascii : (c v : ℕ) → hex_digit_value c ≡ Some v → c < 128
digit-ascii c v h = grind arith

all_digits : all_below is_digit_of 128 ≡ true
all_digits = refl

digit_of : (c v : ℕ) (o : Option ℕ) → o ≡ Some v → option_map_or (λ v. to_ascii_uppercase c == slice_index upper_digits v) o true ≡ true
    → to_ascii_uppercase c ≡ slice_index upper_digits v
digit_of c v o is test = eqb-true _ _ (rw is at test)

digit-upper : (c v : ℕ) → hex_digit_value c ≡ Some v → to_ascii_uppercase c ≡ slice_index upper_digits v
digit-upper c v h = digit_of c v (hex_digit_value c) h (all_below_at is_digit_of 128 c all_digits (digit-ascii c v h))

-- the case of a letter doesn't change its value
value-upper : (c : ℕ) → hex_digit_value (to_ascii_uppercase c) ≡ hex_digit_value c
value-upper c = grind (arith, nat_tests)

pub digit-read : (c v : ℕ) → v < 16 → to_ascii_uppercase c ≡ slice_index upper_digits v → hex_digit_value c ≡ Some v
digit-read c v lt e = sym (value-upper c) ∙ ap hex_digit_value e ∙ IsDigits-upper_digits v lt

-- the value of a result that gave one
digit_given : (c i v : ℕ) (o : Option ℕ) → digit_or_error c i o ≡ Ok v → o ≡ Some v
digit_given c i v (Some w) h = cc h
digit_given c i v None h = cc h

-- what a chain of two steps gave
both_given : {A B : Type 0} (r : Result A FromHexError) (f : A → Result B FromHexError) (y : B)
    → (r >>= f) ≡ Ok y → (x : A) × (r ≡ Ok x) × (f x ≡ Ok y)
both_given (Ok x) f y h = (x, refl, h)
both_given (Err e) f y h = cc h

-- a result that is given twice is one
pub ok-same : {A E : Type 0} (x y : A) → (let r : Result A E = Ok x in r) ≡ Ok y → x ≡ y
ok-same x y h = cc h

-- pairs of digits that read as bytes are, in upper case, the digits of these
pub upper-decoded : (i : ℕ) (s bytes : List ℕ) → decode_pairs i s ≡ Ok bytes → str_to_ascii_uppercase s ≡ encode_upper bytes
unfolding decode_pairs encode_with
upper-decoded i [] bytes h = ap encode_upper (ok-same [] bytes h)
upper-decoded i (a ∷ []) bytes h = cc h
upper-decoded i (a ∷ b ∷ rest) bytes h =
    let pair = both_given (pair_value a b i) _ bytes h in
    let high = both_given (value_at a i) _ pair.0 pair.1 in
    let low = both_given (value_at b (i + 1)) _ pair.0 high.2 in
    let tail = both_given (decode_pairs (i + 2) rest) _ bytes pair.2 in
    let byte : high.0 * 16 + low.0 ≡ pair.0 = ok-same _ _ low.2 in
    let whole : pair.0 ∷ tail.0 ≡ bytes = ok-same _ _ tail.2 in
    let h1 = digit_given a i high.0 (hex_digit_value a) high.1 in
    let l1 = digit_given b (i + 1) low.0 (hex_digit_value b) low.1 in
    let small : low.0 < 16 = value-small b low.0 l1 in
    let first : pair.0 / 16 ≡ high.0 = omega arith in
    let second : pair.0 % 16 ≡ low.0 = omega arith in
    rw (← whole, first, second, digit-upper a high.0 h1, digit-upper b low.0 l1, upper-decoded (i + 2) rest tail.0 tail.1) refl
  where
    value-small : (c v : ℕ) → hex_digit_value c ≡ Some v → v < 16
    value-small c v h = grind arith

-- digits that are, in upper case, those of bytes read as these
pub decode-upper : (i : ℕ) (s bytes : List ℕ) → IsBytes bytes → str_to_ascii_uppercase s ≡ encode_upper bytes → decode_pairs i s ≡ Ok bytes
unfolding decode_pairs encode_with
decode-upper i [] [] small h = refl
decode-upper i [] (b ∷ bytes) small h = cc h
decode-upper i (a ∷ []) [] small h = cc h
decode-upper i (a ∷ []) (b ∷ bytes) small h = cc h
decode-upper i (a ∷ b ∷ rest) [] small h = cc h
decode-upper i (a ∷ b ∷ rest) (byte ∷ bytes) small h =
    let below : byte < 256 = small 0 in
    let high : to_ascii_uppercase a ≡ slice_index upper_digits (byte / 16) = cc h in
    let low : to_ascii_uppercase b ≡ slice_index upper_digits (byte % 16) = cc h in
    let tail : str_to_ascii_uppercase rest ≡ encode_upper bytes = cc h in
    let h1 = digit-read a (byte / 16) (omega arith) high in
    let l1 = digit-read b (byte % 16) (omega arith) low in
    let h2 : value_at a i ≡ Ok (byte / 16) = ap (digit_or_error a i) h1 in
    let l2 : value_at b (i + 1) ≡ Ok (byte % 16) = ap (digit_or_error b (i + 1)) l1 in
    let pair : pair_value a b i ≡ Ok (byte / 16 * 16 + byte % 16) = rw (h2, l2) refl in
    let whole : byte / 16 * 16 + byte % 16 ≡ byte = omega arith in
    decode_pairs-ok_pair i a b _ rest pair
    ∙ ap (cons_byte (byte / 16 * 16 + byte % 16)) (decode-upper (i + 2) rest bytes (λ k. small (suc k)) tail)
    ∙ ap (λ (v : ℕ). Ok (v ∷ bytes)) whole
