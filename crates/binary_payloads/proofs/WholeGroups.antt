-- Characters of whole groups are a payload exactly if each of them is a digit.
use Rattle.std.proofs.Common.{◌≡◌, ℕ, ◌+◌, ◌-◌, ◌*◌, ◌/◌, ◌%◌, ◌<◌, ◌≤◌, ◌==◌, ◌&&◌, ◌||◌, Bool, true, false, not, nat_lt, List, [], ◌∷◌, ◌++◌, length, replicate, take, drop, slice_index, if◌then◌else◌, zero, suc, refl, sym, ap, ◌∙◌, subst, arith}
use Rattle.std.specs.Char.{digit_value, to_ascii_uppercase}
use Rattle.std.specs.List.{list_all}
use Rattle.std.proofs.lemmas.Bool.{and_parts, and_from, eqb-true, ltb-true}
use Rattle.std.proofs.lemmas.List.{length-take-le}
use Rattle.std.proofs.lemmas.List.Folds.{list_all-append}
use Rattle.std.specs.Option.{is_some}
use Rattle.hex.specs.Hex.{encode_with, hex_digit_value, upper_digits}
use Rattle.base64.specs.Tables.{all_below}
use Rattle.base64.proofs.Tables.{all_below_at}
use Rattle.base64.specs.Rfc4648.{encode_group, encode_symbols, padding_len}
use Rattle.base64.specs.Engines.{standard}
use Rattle.base64.specs.GeneralPurpose.{IsBytes, encode_of}
use Rattle.base64.proofs.EngineFacts.{encode_of-nil}
use Rattle.base64.specs.declared.engine.general_purpose.GeneralPurpose.{GeneralPurpose}
use Rattle.binary_payloads.specs.declared.enc.Enc.{Enc}
use Rattle.binary_payloads.specs.declared.enc.Enc.TheVariants.{Hex, Base64}
use Rattle.binary_payloads.specs.Payload.{IsPayload, IsPayloadOf, base64_of, chars_of, group_of, is_digit_of}
use Rattle.binary_payloads.proofs.HexDigits.{digit-ascii as read-ascii, digit-read}
use Rattle.binary_payloads.proofs.Pieces.{payload_of-front, payload_of-rest, payload_of-whole, payload_of-length}

-- ---- the value of a digit

-- a number that passes no test that it is to pass is none
either : (p q : Bool) → p ≡ true → not p || q ≡ true → q ≡ true
either p q is test = rw is at test

digit-ascii : (enc : Enc) (c : ℕ) → is_digit_of enc c ≡ true → c < 128
digit-ascii Hex c is = grind arith
digit-ascii Base64 c is = grind arith

abbrev is_hex_value : ℕ → Bool
is_hex_value c = not (is_digit_of Hex c) || (to_ascii_uppercase c == slice_index upper_digits (digit_value c))

hex-values : all_below is_hex_value 128 ≡ true
hex-values = refl

hex-value : (c : ℕ) → is_digit_of Hex c ≡ true → (digit_value c < 16) × (to_ascii_uppercase c ≡ slice_index upper_digits (digit_value c))
hex-value c is = (
  ltb-true (digit_value c) 16 is,
  eqb-true _ _ (either _ _ is (all_below_at is_hex_value 128 c hex-values (digit-ascii Hex c is))),
)

abbrev is_base64_value : ℕ → Bool
is_base64_value c = not (is_digit_of Base64 c) || (nat_lt (slice_index standard.decode_table c) 64 && slice_index standard.encode_table (slice_index standard.decode_table c) == c)

base64-values : all_below is_base64_value 128 ≡ true
base64-values = refl

base64-value : (c : ℕ) → is_digit_of Base64 c ≡ true → (v : ℕ) × (v < 64) × (slice_index standard.encode_table v ≡ c)
base64-value c is =
    let parts = and_parts _ _ (either _ _ is (all_below_at is_base64_value 128 c base64-values (digit-ascii Base64 c is))) in
    (slice_index standard.decode_table c, ltb-true _ 64 parts.0, eqb-true _ c parts.1)

abbrev is_symbol : ℕ → Bool
is_symbol v = is_digit_of Base64 (slice_index standard.encode_table v)

base64-symbols : all_below is_symbol 64 ≡ true
base64-symbols = refl

base64-symbol : (v : ℕ) → v < 64 → is_symbol v ≡ true
base64-symbol v less = all_below_at is_symbol 64 v base64-symbols less

-- ---- one group

base64-none : base64_of [] ≡ []
unfolding base64_of
base64-none = encode_of-nil standard

bytes-none : IsBytes []
bytes-none i = omega arith

bytes-more : (b : ℕ) (bytes : List ℕ) → b < 256 → IsBytes bytes → IsBytes (b ∷ bytes)
bytes-more b bytes small more zero = small
bytes-more b bytes small more (suc i) = more i

hex-made : (a b : ℕ) → is_digit_of Hex a ≡ true → is_digit_of Hex b ≡ true → IsPayloadOf Hex (a ∷ b ∷ []) 1
unfolding encode_with
hex-made a b first second =
    let high = hex-value a first in
    let low = hex-value b second in
    let byte = digit_value a * 16 + digit_value b in
    let over : byte / 16 ≡ digit_value a = omega (arith, low.0) in
    let under : byte % 16 ≡ digit_value b = omega (arith, low.0) in
    record {
      bytes = byte ∷ [];
      count = refl;
      payload = record { are_bytes = bytes-more byte [] (omega (arith, high.0, low.0)) bytes-none; written = rw (over, under, high.1, low.1) refl };
    }

abbrev is_hex_digit : ℕ → Bool
is_hex_digit c = not (is_some (hex_digit_value c)) || is_digit_of Hex c

hex-digits-read : all_below is_hex_digit 128 ≡ true
hex-digits-read = refl

hex-digit : (c v : ℕ) → v < 16 → to_ascii_uppercase c ≡ slice_index upper_digits v → is_digit_of Hex c ≡ true
hex-digit c v less is =
    let read = digit-read c v less is in
    either _ _ (ap is_some read) (all_below_at is_hex_digit 128 c hex-digits-read (read-ascii c v read))

hex-digits : (a b : ℕ) (bytes : List ℕ) → length bytes ≡ 1 → IsPayload Hex (a ∷ b ∷ []) bytes → (is_digit_of Hex a ≡ true) × (is_digit_of Hex b ≡ true)
unfolding encode_with
hex-digits a b [] one is = cc
hex-digits a b (x ∷ y ∷ bytes) one is = cc one
hex-digits a b (x ∷ []) one is =
    let small : x < 256 = is.are_bytes 0 in
    let written = is.written in
    (hex-digit a (x / 16) (omega (arith, small)) (cc written), hex-digit b (x % 16) (omega arith) (cc written))

-- what a group needs is no padding
unpadded : (padding : Bool) (pad : ℕ) → (if padding then replicate (padding_len 3) pad else []) ≡ []
unpadded true pad = refl
unpadded false pad = refl

engine-group : (e : GeneralPurpose) (x y z : ℕ) → encode_of e (x ∷ y ∷ z ∷ []) ≡ encode_group e.encode_table x y z
unfolding encode_symbols
engine-group e x y z = ap (λ l. encode_group e.encode_table x y z ++ l) (unpadded e.config.encode_padding e.padding.value)

base64-group : (x y z : ℕ) → base64_of (x ∷ y ∷ z ∷ []) ≡ encode_group standard.encode_table x y z
unfolding base64_of
base64-group x y z = engine-group standard x y z

-- four values below 64 as bytes, and back
group-back : (t : List ℕ) (m0 m1 m2 m3 : ℕ) → m0 < 64 → m1 < 64 → m2 < 64 → m3 < 64
    → encode_group t (m0 * 4 + m1 / 16) (m1 % 16 * 16 + m2 / 4) (m2 % 4 * 64 + m3) ≡ slice_index t m0 ∷ slice_index t m1 ∷ slice_index t m2 ∷ slice_index t m3 ∷ []
group-back t m0 m1 m2 m3 h0 h1 h2 h3 =
    let e0 : (m0 * 4 + m1 / 16) / 4 ≡ m0 = omega arith in
    let e1 : (m0 * 4 + m1 / 16) % 4 * 16 + (m1 % 16 * 16 + m2 / 4) / 16 ≡ m1 = omega arith in
    let e2 : (m1 % 16 * 16 + m2 / 4) % 16 * 4 + (m2 % 4 * 64 + m3) / 64 ≡ m2 = omega arith in
    let e3 : (m2 % 4 * 64 + m3) % 64 ≡ m3 = omega arith in
    rw (e0, e1, e2, e3) refl

same-four : (a b c d x y z w : ℕ) → x ≡ a → y ≡ b → z ≡ c → w ≡ d → x ∷ y ∷ z ∷ w ∷ [] ≡ a ∷ b ∷ c ∷ d ∷ []
same-four a b c d x y z w e0 e1 e2 e3 = cc (e0, e1, e2, e3)

base64-made : (a b c d : ℕ) → list_all (is_digit_of Base64) (a ∷ b ∷ c ∷ d ∷ []) ≡ true → IsPayloadOf Base64 (a ∷ b ∷ c ∷ d ∷ []) 3
base64-made a b c d all =
    let first = and_parts (is_digit_of Base64 a) _ all in
    let second = and_parts (is_digit_of Base64 b) _ first.1 in
    let third = and_parts (is_digit_of Base64 c) _ second.1 in
    let fourth = and_parts (is_digit_of Base64 d) true third.1 in
    let v0 = base64-value a first.0 in
    let v1 = base64-value b second.0 in
    let v2 = base64-value c third.0 in
    let v3 = base64-value d fourth.0 in
    let x = v0.0 * 4 + v1.0 / 16 in
    let y = v1.0 % 16 * 16 + v2.0 / 4 in
    let z = v2.0 % 4 * 64 + v3.0 in
    record {
      bytes = x ∷ y ∷ z ∷ [];
      count = refl;
      payload = record {
        are_bytes = bytes-more x (y ∷ z ∷ []) (omega (arith, v0.1, v1.1)) (bytes-more y (z ∷ []) (omega (arith, v2.1)) (bytes-more z [] (omega (arith, v3.1)) bytes-none));
        written = sym (base64-group x y z ∙ group-back standard.encode_table v0.0 v1.0 v2.0 v3.0 v0.1 v1.1 v2.1 v3.1 ∙ same-four a b c d _ _ _ _ v0.2 v1.2 v2.2 v3.2);
      };
    }

base64-digits : (a b c d : ℕ) (bytes : List ℕ) → length bytes ≡ 3 → IsPayload Base64 (a ∷ b ∷ c ∷ d ∷ []) bytes → list_all (is_digit_of Base64) (a ∷ b ∷ c ∷ d ∷ []) ≡ true
base64-digits a b c d [] three is = cc three
base64-digits a b c d (x ∷ []) three is = cc three
base64-digits a b c d (x ∷ y ∷ []) three is = cc three
base64-digits a b c d (x ∷ y ∷ z ∷ w ∷ bytes) three is = cc three
base64-digits a b c d (x ∷ y ∷ z ∷ []) three is =
    let x_small : x < 256 = is.are_bytes 0 in
    let y_small : y < 256 = is.are_bytes 1 in
    let z_small : z < 256 = is.are_bytes 2 in
    let e0 = base64-symbol (x / 4) (omega (arith, x_small)) in
    let e1 = base64-symbol (x % 4 * 16 + y / 16) (omega (arith, y_small)) in
    let e2 = base64-symbol (y % 16 * 4 + z / 64) (omega (arith, z_small)) in
    let e3 = base64-symbol (z % 64) (omega arith) in
    ap (list_all (is_digit_of Base64)) (is.written ∙ base64-group x y z) ∙ rw (e0, e1, e2, e3) refl

-- ---- whole groups

-- no characters are the payload of no bytes
pub payload-none : (enc : Enc) → IsPayloadOf enc [] 0
unfolding encode_with
payload-none Hex = record { bytes = []; count = refl; payload = record { are_bytes = bytes-none; written = refl } }
payload-none Base64 = record { bytes = []; count = refl; payload = record { are_bytes = bytes-none; written = sym base64-none } }

-- no others are
pub empty-payload : (enc : Enc) (chars : List ℕ) (size : ℕ) → (length chars == 0) ≡ true → size ≡ 0 → IsPayloadOf enc chars size
empty-payload enc [] size empty is = subst (IsPayloadOf enc []) (sym is) (payload-none enc)
empty-payload enc (c ∷ chars) size empty is = absurd (omega (arith, eqb-true (length (c ∷ chars)) 0 empty))

pub payload-empty : (enc : Enc) (chars : List ℕ) (size : ℕ) → IsPayloadOf enc chars size → size ≡ 0 → (length chars == 0) ≡ true
payload-empty enc [] size is none = refl
payload-empty Hex (c ∷ chars) size is none = absurd (omega (arith, payload_of-length Hex (c ∷ chars) size is, none))
payload-empty Base64 (c ∷ chars) size is none = absurd (omega (arith, payload_of-length Base64 (c ∷ chars) size is, none))

pub whole-made : (enc : Enc) (chars : List ℕ) (n : ℕ) → n % group_of enc ≡ 0 → length chars ≡ chars_of enc n → list_all (is_digit_of enc) chars ≡ true → IsPayloadOf enc chars n
whole-made Hex [] n whole len all = subst (IsPayloadOf Hex []) (let none : 0 ≡ n = omega (arith, len) in none) (payload-none Hex)
whole-made Hex (a ∷ []) n whole len all = absurd (omega (arith, len))
whole-made Hex (a ∷ b ∷ chars) n whole len all =
    let first = and_parts (is_digit_of Hex a) _ all in
    let second = and_parts (is_digit_of Hex b) _ first.1 in
    payload_of-whole Hex (a ∷ b ∷ chars) 1 n refl (omega (arith, len)) (hex-made a b first.0 second.0) (whole-made Hex chars (n - 1) (omega arith) (omega (arith, len)) second.1)
whole-made Base64 [] n whole len all = subst (IsPayloadOf Base64 []) (let none : 0 ≡ n = omega (arith, len) in none) (payload-none Base64)
whole-made Base64 (a ∷ []) n whole len all = absurd (omega (arith, len))
whole-made Base64 (a ∷ b ∷ []) n whole len all = absurd (omega (arith, len))
whole-made Base64 (a ∷ b ∷ c ∷ []) n whole len all = absurd (omega (arith, len))
whole-made Base64 (a ∷ b ∷ c ∷ d ∷ chars) n whole len all =
    let parts = and_parts _ _ (sym (list_all-append (is_digit_of Base64) (a ∷ b ∷ c ∷ d ∷ []) chars) ∙ all) in
    payload_of-whole Base64 (a ∷ b ∷ c ∷ d ∷ chars) 3 n refl (omega (arith, len)) (base64-made a b c d parts.0) (whole-made Base64 chars (n - 3) (omega (arith, whole)) (omega (arith, len)) parts.1)

pub whole-digits : (enc : Enc) (chars : List ℕ) (n : ℕ) → n % group_of enc ≡ 0 → IsPayloadOf enc chars n → list_all (is_digit_of enc) chars ≡ true
whole-digits Hex [] n whole is = refl
whole-digits Hex (a ∷ []) n whole is = absurd (omega (arith, payload_of-length Hex (a ∷ []) n is))
whole-digits Hex (a ∷ b ∷ chars) n whole is =
    let len = payload_of-length Hex (a ∷ b ∷ chars) n is in
    let front = payload_of-front Hex (a ∷ b ∷ chars) 1 n refl (omega (arith, len)) is in
    let rest = payload_of-rest Hex (a ∷ b ∷ chars) 1 n refl (omega (arith, len)) is in
    let digits = hex-digits a b front.bytes front.count front.payload in
    and_from _ _ digits.0 (and_from _ _ digits.1 (whole-digits Hex chars (n - 1) (omega arith) rest))
whole-digits Base64 [] n whole is = refl
whole-digits Base64 (a ∷ []) n whole is = absurd (omega (arith, payload_of-length Base64 (a ∷ []) n is))
whole-digits Base64 (a ∷ b ∷ []) n whole is = absurd (omega (arith, payload_of-length Base64 (a ∷ b ∷ []) n is))
whole-digits Base64 (a ∷ b ∷ c ∷ []) n whole is = absurd (omega (arith, payload_of-length Base64 (a ∷ b ∷ c ∷ []) n is))
whole-digits Base64 (a ∷ b ∷ c ∷ d ∷ chars) n whole is =
    let len = payload_of-length Base64 (a ∷ b ∷ c ∷ d ∷ chars) n is in
    let fits : 3 ≤ n = omega (arith, len, whole) in
    let front = payload_of-front Base64 (a ∷ b ∷ c ∷ d ∷ chars) 3 n refl fits is in
    let rest = payload_of-rest Base64 (a ∷ b ∷ c ∷ d ∷ chars) 3 n refl fits is in
    list_all-append (is_digit_of Base64) (a ∷ b ∷ c ∷ d ∷ []) chars
    ∙ and_from _ _ (base64-digits a b c d front.bytes front.count front.payload) (whole-digits Base64 chars (n - 3) (omega (arith, whole, fits)) rest)

-- ---- whole groups, and what follows them

-- fewer characters than bytes are no payload
pub fewer : (enc : Enc) (chars : List ℕ) (n : ℕ) → length chars < n → IsPayloadOf enc chars n → ⊥
fewer Hex chars n less is = absurd (omega (arith, less, payload_of-length Hex chars n is))
fewer Base64 chars n less is = absurd (omega (arith, less, payload_of-length Base64 chars n is))

-- the bytes of the whole groups, and how many more there are
group-parts : (enc : Enc) (size : ℕ) → (let whole = size - size % group_of enc in (whole % group_of enc ≡ 0) × (whole ≤ size) × (size - whole ≡ size % group_of enc))
group-parts Hex size = (omega arith, omega arith, omega arith)
group-parts Base64 size = (omega arith, omega arith, omega arith)

-- characters cut behind the last whole group
pub record AreCut (enc : Enc) (chars groups more : List ℕ) (size rest : ℕ) : Type 0 where
  pub fits : chars_of enc (size - size % group_of enc) ≤ length chars
  pub front : groups ≡ take (chars_of enc (size - size % group_of enc)) chars
  pub last : more ≡ drop (chars_of enc (size - size % group_of enc)) chars
  pub left : rest ≡ size % group_of enc

module _ (enc : Enc) (chars front last : List ℕ) (size left : ℕ) (cut : AreCut enc chars front last size left) where
  pub cut-made : list_all (is_digit_of enc) front ≡ true → IsPayloadOf enc last left → IsPayloadOf enc chars size
  cut-made digits is =
      let parts = group-parts enc size in
      let whole = size - size % group_of enc in
      let long : length (take (chars_of enc whole) chars) ≡ chars_of enc whole = length-take-le (chars_of enc whole) chars cut.fits in
      let made = whole-made enc (take (chars_of enc whole) chars) whole parts.0 long (ap (list_all (is_digit_of enc)) (sym cut.front) ∙ digits) in
      payload_of-whole enc chars whole size parts.0 parts.1 made
      (subst (λ n. IsPayloadOf enc (drop (chars_of enc whole) chars) n) (cut.left ∙ sym parts.2) (subst (λ l. IsPayloadOf enc l left) cut.last is))

  pub cut-digits : IsPayloadOf enc chars size → (list_all (is_digit_of enc) front ≡ true) × IsPayloadOf enc last left
  cut-digits is =
      let parts = group-parts enc size in
      let whole = size - size % group_of enc in (
        ap (list_all (is_digit_of enc)) cut.front ∙ whole-digits enc (take (chars_of enc whole) chars) whole parts.0 (payload_of-front enc chars whole size parts.0 parts.1 is),
        subst (λ n. IsPayloadOf enc last n) (parts.2 ∙ sym cut.left)
            (subst (λ l. IsPayloadOf enc l (size - whole)) (sym cut.last) (payload_of-rest enc chars whole size parts.0 parts.1 is)),
      )
