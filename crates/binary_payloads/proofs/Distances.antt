-- How far each of the 256 characters is from the digits of base64.
use Rattle.std.proofs.Common.{◌≡◌, ℕ, ◌+◌, ◌-◌, ◌%◌, ◌<◌, ◌==◌, Bool, true, false, bit_or, refl}
use Rattle.std.specs.Prelude.{bit_xor, min}
use mathlib.Core.Bool.{beq}
use Rattle.base64.specs.Tables.{all_below}
use Rattle.base64.proofs.Tables.{all_below_at}
use Rattle.binary_payloads.specs.declared.enc.Enc.TheVariants.{Base64}
use Rattle.binary_payloads.specs.Payload.{is_digit_of}

-- the distance as the code computes it
abbrev pub nearest : ℕ → ℕ
nearest c = min (min ((bit_or c 32 + 159) % 256 - 25) ((c + 209) % 256 - 10)) (bit_xor c 43)

abbrev is_told : ℕ → Bool
is_told c = beq (nearest c == 0) (is_digit_of Base64 c)

all_told : all_below is_told 256 ≡ true
all_told = refl

same : (x y : Bool) → beq x y ≡ true → x ≡ y
same true true h = refl
same true false h = cc
same false true h = cc
same false false h = refl

-- it is 0 exactly at a digit
pub nearest-tells : (c : ℕ) → c < 256 → (nearest c == 0) ≡ is_digit_of Base64 c
nearest-tells c low = same _ _ (all_below_at is_told 256 c all_told low)
