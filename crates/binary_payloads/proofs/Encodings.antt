-- The laws of encodings.
use Rattle.std.proofs.Common.{◌≡◌, ℕ, ◌+◌, ◌*◌, ◌/◌, ◌%◌, ◌≤◌, true, List, [], ◌∷◌, ◌++◌, length, take, drop, replicate, refl, sym, ap, ◌∙◌, subst, length-append, zero, suc, arith}
use Rattle.std.specs.Char.{to_ascii_uppercase}
use Rattle.std.proofs.lemmas.List.{length-map, length-replicate, take-append-drop, length-take-le, take_at, drop_at, take-map, drop-map, map-append, get_or-drop}
use Rattle.base64.proofs.EngineFacts.{front_bytes}
use Rattle.hex.specs.Hex.{encode_with, upper_digits, decode_of as decode_hex}
use Rattle.hex.proofs.HexLemmas.{length-encode_with, decode_of-encode_upper}
use Rattle.base64.specs.declared.engine.general_purpose.GeneralPurpose.{GeneralPurpose}
use Rattle.base64.specs.Rfc4648.{encode_symbols, padding_len}
use Rattle.base64.specs.Engines.{standard}
use Rattle.base64.specs.GeneralPurpose.{encode_of, decode_of, IsBytes, IsConsistent}
use Rattle.base64.proofs.EngineFacts.{encode_of-append, decode_of-encode_of}
use Rattle.base64.proofs.RoundTrip.{length-encode_symbols}
use Rattle.binary_payloads.specs.declared.enc.Enc.{Enc}
use Rattle.binary_payloads.specs.declared.enc.Enc.TheVariants.{Hex, Base64}
use Rattle.binary_payloads.specs.Payload.{IsPayload, encoding, in_one_case, chars_of, group_of, base64_of}
use Rattle.binary_payloads.proofs.HexDigits.{ok-same}

hex-append : (t a b : List ℕ) → encode_with t (a ++ b) ≡ encode_with t a ++ encode_with t b
unfolding encode_with
hex-append t [] b = refl
hex-append t (x ∷ a) b = rw (hex-append t a b) refl

base64-append : (a b : List ℕ) → length a % 3 ≡ 0 → base64_of (a ++ b) ≡ base64_of a ++ base64_of b
unfolding base64_of
base64-append a b whole = encode_of-append standard a b whole

pub encoding-append : (enc : Enc) (a b : List ℕ) → length a % group_of enc ≡ 0 → encoding enc (a ++ b) ≡ encoding enc a ++ encoding enc b
encoding-append Hex a b whole = hex-append upper_digits a b
encoding-append Base64 a b whole = base64-append a b whole

-- the length of an encoding with padding
length-padded : (e : GeneralPurpose) (bytes : List ℕ) → e.config.encode_padding ≡ true → length (encode_of e bytes) ≡ 4 * ((length bytes + 2) / 3)
length-padded e bytes padded =
    let symbols = length-encode_symbols e.encode_table bytes in
    let pads = length-replicate (padding_len (length bytes)) e.padding.value in
    rw (padded, length-append (encode_symbols e.encode_table bytes) (replicate (padding_len (length bytes)) e.padding.value), symbols, pads) (omega arith)

length-base64 : (bytes : List ℕ) → length (base64_of bytes) ≡ 4 * ((length bytes + 2) / 3)
unfolding base64_of
length-base64 bytes = length-padded standard bytes refl

pub length-encoding : (enc : Enc) (bytes : List ℕ) → length (encoding enc bytes) ≡ chars_of enc (length bytes)
length-encoding Hex bytes = length-encode_with upper_digits bytes
length-encoding Base64 bytes = length-base64 bytes

pub length-in_one_case : (enc : Enc) (chars : List ℕ) → length (in_one_case enc chars) ≡ length chars
length-in_one_case Hex chars = length-map chars to_ascii_uppercase
length-in_one_case Base64 chars = refl

-- the characters of a payload are as many as write its bytes
pub length-payload : (enc : Enc) (chars bytes : List ℕ) → IsPayload enc chars bytes → length chars ≡ chars_of enc (length bytes)
length-payload enc chars bytes is = sym (length-in_one_case enc chars) ∙ ap length is.written ∙ length-encoding enc bytes

engine-unique : (e : GeneralPurpose) (a b : List ℕ) → IsConsistent e → IsBytes a → IsBytes b → encode_of e a ≡ encode_of e b → a ≡ b
engine-unique e a b consistent ba bb h =
    ok-same a b (sym (decode_of-encode_of e a consistent ba) ∙ ap (λ x. decode_of e x) h ∙ decode_of-encode_of e b consistent bb)

base64-unique : (a b : List ℕ) → IsBytes a → IsBytes b → base64_of a ≡ base64_of b → a ≡ b
unfolding base64_of
base64-unique a b ba bb h = engine-unique standard a b refl ba bb h

-- an encoding is that of one list of bytes
pub encoding-unique : (enc : Enc) (a b : List ℕ) → IsBytes a → IsBytes b → encoding enc a ≡ encoding enc b → a ≡ b
encoding-unique Hex a b ba bb h =
    ok-same a b (sym (decode_of-encode_upper a ba) ∙ ap decode_hex h ∙ decode_of-encode_upper b bb)
encoding-unique Base64 a b ba bb h = base64-unique a b ba bb h

pub payload-unique : (enc : Enc) (chars a b : List ℕ) → IsPayload enc chars a → IsPayload enc chars b → a ≡ b
payload-unique enc chars a b pa pb = encoding-unique enc a b pa.are_bytes pb.are_bytes (sym pa.written ∙ pb.written)

-- ---- pieces

bytes-take : (n : ℕ) (bytes : List ℕ) → IsBytes bytes → IsBytes (take n bytes)
bytes-take n bytes h = let whole : IsBytes (take n bytes ++ drop n bytes) = subst IsBytes (sym (take-append-drop n bytes)) h in
    front_bytes (take n bytes) (drop n bytes) whole

bytes-drop : (n : ℕ) (bytes : List ℕ) → IsBytes bytes → IsBytes (drop n bytes)
bytes-drop n bytes h i = rw (get_or-drop n bytes i 0) (h (n + i))

bytes-append : (a b : List ℕ) → IsBytes a → IsBytes b → IsBytes (a ++ b)
bytes-append [] b ha hb i = hb i
bytes-append (x ∷ a) b ha hb zero = ha 0
bytes-append (x ∷ a) b ha hb (suc i) = bytes-append a b (λ k. ha (suc k)) hb i

one_case-take : (enc : Enc) (n : ℕ) (chars : List ℕ) → in_one_case enc (take n chars) ≡ take n (in_one_case enc chars)
one_case-take Hex n chars = sym (take-map to_ascii_uppercase n chars)
one_case-take Base64 n chars = refl

one_case-drop : (enc : Enc) (n : ℕ) (chars : List ℕ) → in_one_case enc (drop n chars) ≡ drop n (in_one_case enc chars)
one_case-drop Hex n chars = sym (drop-map to_ascii_uppercase n chars)
one_case-drop Base64 n chars = refl

one_case-append : (enc : Enc) (a b : List ℕ) → in_one_case enc (a ++ b) ≡ in_one_case enc a ++ in_one_case enc b
one_case-append Hex a b = map-append to_ascii_uppercase a b
one_case-append Base64 a b = refl

-- an encoding by its first n bytes and the rest
encoding-split : (enc : Enc) (n : ℕ) (bytes : List ℕ) → n % group_of enc ≡ 0 → n ≤ length bytes
    → (encoding enc bytes ≡ encoding enc (take n bytes) ++ encoding enc (drop n bytes)) × (length (encoding enc (take n bytes)) ≡ chars_of enc n)
encoding-split enc n bytes whole fits =
    let len : length (take n bytes) ≡ n = length-take-le n bytes fits in (
      ap (encoding enc) (sym (take-append-drop n bytes)) ∙ encoding-append enc (take n bytes) (drop n bytes) (ap (λ k. k % group_of enc) len ∙ whole),
      length-encoding enc (take n bytes) ∙ ap (chars_of enc) len,
    )

-- the front of a payload is the payload of the front
pub payload-take : (enc : Enc) (n : ℕ) (chars bytes : List ℕ) → n % group_of enc ≡ 0 → n ≤ length bytes → IsPayload enc chars bytes
    → IsPayload enc (take (chars_of enc n) chars) (take n bytes)
payload-take enc n chars bytes whole fits is =
    let split = encoding-split enc n bytes whole fits in
    record {
      are_bytes = bytes-take n bytes is.are_bytes;
      written = one_case-take enc (chars_of enc n) chars ∙ ap (take (chars_of enc n)) (is.written ∙ split.0)
          ∙ take_at (encoding enc (take n bytes)) (encoding enc (drop n bytes)) (chars_of enc n) split.1;
    }

-- the rest of a payload is the payload of the rest
pub payload-drop : (enc : Enc) (n : ℕ) (chars bytes : List ℕ) → n % group_of enc ≡ 0 → n ≤ length bytes → IsPayload enc chars bytes
    → IsPayload enc (drop (chars_of enc n) chars) (drop n bytes)
payload-drop enc n chars bytes whole fits is =
    let split = encoding-split enc n bytes whole fits in
    record {
      are_bytes = bytes-drop n bytes is.are_bytes;
      written = one_case-drop enc (chars_of enc n) chars ∙ ap (drop (chars_of enc n)) (is.written ∙ split.0)
          ∙ drop_at (encoding enc (take n bytes)) (encoding enc (drop n bytes)) (chars_of enc n) split.1;
    }

-- a payload of whole groups followed by another payload
pub payload-append : (enc : Enc) (x y a b : List ℕ) → length a % group_of enc ≡ 0 → IsPayload enc x a → IsPayload enc y b → IsPayload enc (x ++ y) (a ++ b)
payload-append enc x y a b whole one other = record {
  are_bytes = bytes-append a b one.are_bytes other.are_bytes;
  written = one_case-append enc x y ∙ ap (λ l. l ++ in_one_case enc y) one.written ∙ ap (λ l. encoding enc a ++ l) other.written
      ∙ sym (encoding-append enc a b whole);
}
