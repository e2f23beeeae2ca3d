-- Characters of a payload that are made blank write zeros.
use Rattle.std.proofs.Common.{◌≡◌, ℕ, zero, suc, ◌/◌, ◌%◌, ◌<◌, true, List, [], ◌∷◌, map, slice_index, refl, sym, ◌∙◌, ap, ap₂, arith, ◌+◌, ◌*◌, ◌==◌, ◌++◌, length, replicate}
use Rattle.std.specs.Char.{to_ascii_uppercase}
use Rattle.std.proofs.lemmas.Bool.{cond-true, eqb-true}
use Rattle.std.proofs.lemmas.Bool.Decides.{nat_tests}
use Rattle.std.proofs.lemmas.List.{length-map}
use Rattle.hex.specs.Hex.{encode_with, encode_upper, upper_digits}
use Rattle.base64.specs.GeneralPurpose.{IsBytes}
use Rattle.base64.specs.Tables.{all_below}
use Rattle.base64.proofs.Tables.{all_below_at}
use Rattle.binary_payloads.specs.declared.enc.Enc.TheVariants.{Hex, Base64}
use Rattle.term_forms.specs.Words.{is_hex_digit}
use Rattle.base64.specs.Engines.{standard}
use Rattle.base64.specs.Rfc4648.{encode_symbols, padding_len}
use Rattle.binary_payloads.specs.Payload.{base64_of}
use Rattle.dump_redact.specs.Redacted.{blank}
use Rattle.dump_redact.specs.Payloads.{KeepsPayloads}
use Rattle.dump_redact.proofs.Alike.{map-both}

upper-digit : (c : ℕ) → is_hex_digit (to_ascii_uppercase c) ≡ is_hex_digit c
upper-digit c = grind (arith, nat_tests)

all_digits : all_below (λ v. is_hex_digit (slice_index upper_digits v)) 16 ≡ true
all_digits = refl

digit : (c v : ℕ) → v < 16 → to_ascii_uppercase c ≡ slice_index upper_digits v → is_hex_digit c ≡ true
digit c v lt e = sym (upper-digit c) ∙ ap is_hex_digit e ∙ all_below_at (λ v. is_hex_digit (slice_index upper_digits v)) 16 v all_digits lt

blank-digit : (c v : ℕ) → v < 16 → to_ascii_uppercase c ≡ slice_index upper_digits v → to_ascii_uppercase (blank Hex c) ≡ 48
blank-digit c v lt e = ap to_ascii_uppercase (cond-true (is_hex_digit c) 48 c (digit c v lt e))

abbrev pub zeros : List ℕ → List ℕ
zeros bytes = map (λ _. 0) bytes

pub zeros-bytes : (bytes : List ℕ) → IsBytes (zeros bytes)
zeros-bytes [] i = omega arith
zeros-bytes (b ∷ bytes) zero = omega arith
zeros-bytes (b ∷ bytes) (suc i) = zeros-bytes bytes i

blank-pairs : (bytes chars : List ℕ) → IsBytes bytes → map to_ascii_uppercase chars ≡ encode_upper bytes
    → map to_ascii_uppercase (map (blank Hex) chars) ≡ encode_upper (zeros bytes)
unfolding encode_with
blank-pairs [] [] are e = refl
blank-pairs [] (c ∷ chars) are e = cc e
blank-pairs (b ∷ bytes) [] are e = cc e
blank-pairs (b ∷ bytes) (c ∷ []) are e = cc e
blank-pairs (b ∷ bytes) (c ∷ d ∷ chars) are e =
    let small : b < 256 = are 0 in
    let first : to_ascii_uppercase c ≡ slice_index upper_digits (b / 16) = cc e in
    let second : to_ascii_uppercase d ≡ slice_index upper_digits (b % 16) = cc e in
    let rest : map to_ascii_uppercase chars ≡ encode_upper bytes = cc e in
    ap₂ (λ x xs. x ∷ xs) (blank-digit c (b / 16) (omega (arith, small)) first)
    (ap₂ (λ x xs. x ∷ xs) (blank-digit d (b % 16) (omega (arith, small)) second) (blank-pairs bytes chars (λ i. are (suc i)) rest))

pub hex-stays : KeepsPayloads Hex
hex-stays chars size is = record {
  bytes = zeros is.bytes;
  count = length-map is.bytes (λ _. 0) ∙ is.count;
  payload = record { are_bytes = zeros-bytes is.bytes; written = blank-pairs is.bytes chars is.payload.are_bytes is.payload.written };
}

-- ---- characters in base64 that are made blank write zeros: padding stays, and the unused bits of zeros are zero

abbrev table : List ℕ
table = standard.encode_table

all_symbols : all_below (λ i. blank Base64 (slice_index table i) == 65) 64 ≡ true
all_symbols = refl

symbol : (i : ℕ) → i < 64 → blank Base64 (slice_index table i) ≡ 65
symbol i lt = eqb-true (blank Base64 (slice_index table i)) 65 (all_below_at (λ i. blank Base64 (slice_index table i) == 65) 64 i all_symbols lt)

symbols : (bytes : List ℕ) → IsBytes bytes → map (blank Base64) (encode_symbols table bytes) ≡ encode_symbols table (zeros bytes)
unfolding encode_symbols
symbols [] are = refl
symbols (a ∷ []) are =
    let l : a < 256 = are 0 in
    ap₂ (λ x y. x ∷ y ∷ []) (symbol (a / 4) (omega (arith, l))) (symbol (a % 4 * 16) (omega (arith, l)))
symbols (a ∷ b ∷ []) are =
    let l : a < 256 = are 0 in
    let m : b < 256 = are 1 in
    ap₂ (λ x y. x ∷ y) (symbol (a / 4) (omega (arith, l)))
    (ap₂ (λ x y. x ∷ y ∷ []) (symbol (a % 4 * 16 + b / 16) (omega (arith, l, m))) (symbol (b % 16 * 4) (omega (arith, m))))
symbols (a ∷ b ∷ c ∷ rest) are =
    let l : a < 256 = are 0 in
    let m : b < 256 = are 1 in
    let n : c < 256 = are 2 in
    ap₂ (λ x y. x ∷ y) (symbol (a / 4) (omega (arith, l)))
    (ap₂ (λ x y. x ∷ y) (symbol (a % 4 * 16 + b / 16) (omega (arith, l, m)))
    (ap₂ (λ x y. x ∷ y) (symbol (b % 16 * 4 + c / 64) (omega (arith, m, n)))
    (ap₂ (λ x y. x ∷ y) (symbol (c % 64) (omega (arith, n))) (symbols rest (λ i. are (suc (suc (suc i))))))))

pads : (n : ℕ) → map (blank Base64) (replicate n 61) ≡ replicate n 61
pads zero = refl
pads (suc n) = ap (λ l. 61 ∷ l) (pads n)

encoded : (bytes : List ℕ) → IsBytes bytes → map (blank Base64) (base64_of bytes) ≡ base64_of (zeros bytes)
unfolding base64_of
encoded bytes are =
    map-both Base64 (encode_symbols table bytes) (replicate (padding_len (length bytes)) 61)
    ∙ ap₂ (λ xs ys. xs ++ ys) (symbols bytes are) (pads (padding_len (length bytes)))
    ∙ ap (λ n. encode_symbols table (zeros bytes) ++ replicate (padding_len n) 61) (sym (length-map bytes (λ _. 0)))

pub base64-stays : KeepsPayloads Base64
base64-stays chars size is = record {
  bytes = zeros is.bytes;
  count = length-map is.bytes (λ _. 0) ∙ is.count;
  payload = record {
    are_bytes = zeros-bytes is.bytes;
    written = ap (map (blank Base64)) is.payload.written ∙ encoded is.bytes is.payload.are_bytes;
  };
}
