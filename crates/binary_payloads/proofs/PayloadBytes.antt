-- The bytes that the characters of a payload write.
use Rattle.std.proofs.Common.{◌≡◌, ◌↔◌, ℕ, zero, suc, nat_lt, Bool, true, false, List, [], ◌∷◌, Option, None, Some, Decides, option_and_then, if◌then◌else◌, refl, sym, ap, ◌∙◌, arith}
use Rattle.std.specs.List.{list_all}
use Rattle.std.specs.Result.{result_ok}
use Rattle.std.specs.Str.{bytes_eq}
use Rattle.std.proofs.lemmas.Bool.{and_parts, and_from, ltb-true, lt-ltb}
use Rattle.std.proofs.lemmas.Slice.Eq.{bytes_eq-Decides}
use Rattle.hex.proofs.HexLemmas.{decode_of-even}
use Rattle.base64.specs.declared.engine.general_purpose.GeneralPurpose.{GeneralPurpose}
use Rattle.base64.specs.Engines.{standard}
use Rattle.base64.specs.GeneralPurpose.{decode_of, decoded_of, encode_of, IsBytes, IsConsistent}
use Rattle.base64.proofs.EngineFacts.{decode_of-encode_of}
use Rattle.binary_payloads.specs.declared.enc.Enc.{Enc}
use Rattle.binary_payloads.specs.declared.enc.Enc.TheVariants.{Hex, Base64}
use Rattle.binary_payloads.specs.Payload.{IsPayload, base64_of, encoding, in_one_case}
use Rattle.binary_payloads.specs.ReadingPayloads.{payload_bytes, base64_decoded, decoded, writes}
use Rattle.binary_payloads.proofs.Encodings.{length-payload}
use Rattle.binary_payloads.proofs.HexDigits.{decode-upper}

-- ---- a payload decodes to its bytes

engine-decoded : (e : GeneralPurpose) (s b : List ℕ) → IsConsistent e → IsBytes b → s ≡ encode_of e b → decoded_of e s ≡ Some b
unfolding decoded_of
engine-decoded e s b consistent bytes is = ap result_ok (ap (λ x. decode_of e x) is ∙ decode_of-encode_of e b consistent bytes)

base64-decoded : (chars bytes : List ℕ) → IsPayload Base64 chars bytes → base64_decoded chars ≡ Some bytes
unfolding base64_decoded base64_of
base64-decoded chars bytes is = engine-decoded standard chars bytes refl is.are_bytes is.written

payload-decoded : (enc : Enc) (chars bytes : List ℕ) → IsPayload enc chars bytes → decoded enc chars ≡ Some bytes
payload-decoded Hex chars bytes is =
    let twice = length-payload Hex chars bytes is in
    ap result_ok (decode_of-even chars (omega (arith, twice)) ∙ decode-upper 0 chars bytes is.are_bytes is.written)
payload-decoded Base64 chars bytes is = base64-decoded chars bytes is

-- ---- the test of one list of bytes

all-bytes : (bytes : List ℕ) → list_all (λ b. nat_lt b 256) bytes ≡ true → IsBytes bytes
all-bytes [] h i = omega arith
all-bytes (b ∷ bytes) h zero = ltb-true b 256 (and_parts (nat_lt b 256) (list_all (λ b. nat_lt b 256) bytes) h).0
all-bytes (b ∷ bytes) h (suc i) = all-bytes bytes (and_parts (nat_lt b 256) (list_all (λ b. nat_lt b 256) bytes) h).1 i

bytes-all : (bytes : List ℕ) → IsBytes bytes → list_all (λ b. nat_lt b 256) bytes ≡ true
bytes-all [] h = refl
bytes-all (b ∷ bytes) h = and_from (nat_lt b 256) (list_all (λ b. nat_lt b 256) bytes) (lt-ltb b 256 (h 0)) (bytes-all bytes (λ i. h (suc i)))

writes-decides : (enc : Enc) (chars bytes : List ℕ) → Decides (writes enc chars bytes) (IsPayload enc chars bytes)
writes-decides enc chars bytes =
    let same = bytes_eq-Decides (in_one_case enc chars) (encoding enc bytes) in (
      λ h.
          let parts = and_parts (list_all (λ b. nat_lt b 256) bytes) (bytes_eq (in_one_case enc chars) (encoding enc bytes)) h in
          record { are_bytes = all-bytes bytes parts.0; written = same.0 parts.1 },
      λ is. and_from (list_all (λ b. nat_lt b 256) bytes) (bytes_eq (in_one_case enc chars) (encoding enc bytes)) (bytes-all bytes is.are_bytes) (same.1 is.written),
    )

-- ---- the bytes

kept : (t : List ℕ → Bool) (bytes : List ℕ) → t bytes ≡ true → option_and_then (λ b. if t b then Some b else None) (Some bytes) ≡ Some bytes
kept t bytes h = rw h refl

chosen : (b : Bool) (x bytes : List ℕ) → (if b then Some x else None) ≡ Some bytes → (b ≡ true) × (x ≡ bytes)
chosen true x bytes h = (refl, cc h)
chosen false x bytes h = cc h

found : (t : List ℕ → Bool) (o : Option (List ℕ)) (bytes : List ℕ) → option_and_then (λ b. if t b then Some b else None) o ≡ Some bytes → t bytes ≡ true
found t None bytes h = cc h
found t (Some x) bytes h =
    let parts = chosen (t x) x bytes h in
    ap t (sym parts.1) ∙ parts.0

pub payload-read : (enc : Enc) (chars bytes : List ℕ) → (payload_bytes enc chars ≡ Some bytes) ↔ IsPayload enc chars bytes
unfolding payload_bytes
payload-read enc chars bytes = (
  λ h. (writes-decides enc chars bytes).0 (found (writes enc chars) (decoded enc chars) bytes h),
  λ is.
      ap (option_and_then (λ b. if writes enc chars b then Some b else None)) (payload-decoded enc chars bytes is)
      ∙ kept (writes enc chars) bytes ((writes-decides enc chars bytes).1 is),
)
