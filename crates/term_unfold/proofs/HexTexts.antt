-- The digits that the hex crate writes, in upper case.
use Rattle.std.proofs.Common.{◌≡◌, ℕ, suc, ◌/◌, ◌%◌, ◌<◌, true, List, [], ◌∷◌, map, get_or, slice_index, refl, sym, ◌∙◌, ap, inl, inr, arith}
use Rattle.std.specs.Prelude.{Result, Ok, Err, IsOk, OnOk}
use Rattle.std.specs.Char.{to_ascii_uppercase}
use Rattle.std.specs.Fmt.{digit_glyph}
use Rattle.std.specs.List.{flat_map}
use Rattle.std.proofs.lemmas.Bool.{cases_lt}
use Rattle.std.proofs.lemmas.List.{get_or-map, get_or_past}
use Rattle.hex.specs.Hex.{encode_with, encode_lower, encode_upper, lower_digits, upper_digits}
use Rattle.dump_io.specs.Numbers.{hex_byte}

digits-upper : map to_ascii_uppercase lower_digits ≡ upper_digits
digits-upper = refl

digit-upper : (d : ℕ) → to_ascii_uppercase (slice_index lower_digits d) ≡ slice_index upper_digits d
digit-upper d = elim (cases_lt d 16) [
  | inl low ↦ sym (get_or-map to_ascii_uppercase lower_digits d 0 0 low) ∙ ap (λ t. slice_index t d) digits-upper
  | inr past ↦ ap to_ascii_uppercase (get_or_past lower_digits d 0 past) ∙ sym (get_or_past upper_digits d 0 past)
]

pub upper-encode : (xs : List ℕ) → map to_ascii_uppercase (encode_lower xs) ≡ encode_upper xs
unfolding encode_with
upper-encode [] = refl
upper-encode (b ∷ rest) =
    ap (λ h. h ∷ to_ascii_uppercase (slice_index lower_digits (b % 16)) ∷ map to_ascii_uppercase (encode_lower rest)) (digit-upper (b / 16))
    ∙ ap (λ l. slice_index upper_digits (b / 16) ∷ l ∷ map to_ascii_uppercase (encode_lower rest)) (digit-upper (b % 16))
    ∙ ap (λ r. slice_index upper_digits (b / 16) ∷ slice_index upper_digits (b % 16) ∷ r) (upper-encode rest)

glyph : (d : ℕ) → d < 16 → slice_index upper_digits d ≡ digit_glyph true d
glyph (suc (suc (suc (suc (suc (suc (suc (suc (suc (suc (suc (suc (suc (suc (suc (suc d)))))))))))))))) below = absurd (omega (arith, below))
glyph d below = refl

-- bytes as pairs of digits
pub bytes-encode : (xs : List ℕ) → ((k : ℕ) → get_or xs k 0 < 256) → encode_upper xs ≡ flat_map hex_byte xs
unfolding encode_with
bytes-encode [] bytes = refl
bytes-encode (b ∷ rest) bytes =
    let small : b < 256 = bytes 0 in
    ap (λ h. h ∷ slice_index upper_digits (b % 16) ∷ encode_upper rest) (glyph (b / 16) (omega (arith, small)))
    ∙ ap (λ l. digit_glyph true (b / 16) ∷ l ∷ encode_upper rest) (glyph (b % 16) (omega arith))
    ∙ ap (λ r. digit_glyph true (b / 16) ∷ digit_glyph true (b % 16) ∷ r) (bytes-encode rest (λ k. bytes (suc k)))

pub on-ok : {T E : Type 0} (r : Result T E) (P : Type 0) → IsOk r → OnOk r P → P
on-ok (Ok x) P is h = h
on-ok (Err e) P is h = cc is
