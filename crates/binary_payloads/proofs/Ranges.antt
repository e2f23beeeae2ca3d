-- The characters of a cover, in a payload, and the range of its bytes that is read from them.
use Rattle.std.proofs.Common.{◌≡◌, ℕ, ◌+◌, ◌-◌, ◌*◌, ◌/◌, ◌%◌, ◌<◌, ◌≤◌, min, List, length, take, drop, Some, refl, sym, ap, ◌∙◌, subst, inl, inr, arith}
use Rattle.std.specs.Int.{div_ceil}
use Rattle.std.specs.Option.{option_map}
use Rattle.std.proofs.lemmas.List.{take-take, drop-drop, drop-take, take_all, length-take-le, length-drop}
use Rattle.std.proofs.lemmas.Bool.{cases_lt, cases_eq, ne_eqb}
use Rattle.binary_payloads.specs.declared.covers.Cover.{Cover}
use Rattle.binary_payloads.specs.declared.enc.Enc.{Enc}
use Rattle.binary_payloads.specs.declared.enc.Enc.TheVariants.{Hex, Base64}
use Rattle.binary_payloads.specs.Payload.{IsPayload, IsPayloadOf, chars_of, group_of}
use Rattle.binary_payloads.specs.Cover.{IsCovered, cover_of}
use Rattle.binary_payloads.specs.ReadingPayloads.{payload_bytes}
use Rattle.binary_payloads.proofs.Encodings.{length-payload, payload-take, payload-drop, payload-unique}
use Rattle.binary_payloads.proofs.PayloadBytes.{payload-read}
use Rattle.binary_payloads.proofs.Pieces.{chars_of-grows, payload_of-length}

-- a part of a part, from its start
part : (xs : List ℕ) (a b n count : ℕ) → b + count ≤ n → take count (drop b (take n (drop a xs))) ≡ take count (drop (a + b) xs)
part xs a b n count fits =
    let e : n ≡ b + (n - b) = omega arith in
    ap (λ k. take count (drop b (take k (drop a xs)))) e ∙ ap (take count) (drop-take b (n - b) (drop a xs))
    ∙ take-take count (n - b) (drop b (drop a xs)) (omega arith) ∙ ap (take count) (drop-drop b a xs)

-- a front of whole groups, or of no fewer bytes than there are
front-payload : (enc : Enc) (chars bytes : List ℕ) (n : ℕ) → (n < length bytes → n % group_of enc ≡ 0) → IsPayload enc chars bytes
    → IsPayload enc (take (chars_of enc n) chars) (take n bytes)
front-payload enc chars bytes n groups is = elim (cases_lt n (length bytes)) [
  | inl within ↦ payload-take enc n chars bytes (groups within) (omega arith) is
  | inr past ↦
      let fits = chars_of-grows enc (length bytes) n past in
      let c : take (chars_of enc n) chars ≡ chars = take_all (chars_of enc n) chars (omega (arith, length-payload enc chars bytes is, fits)) in
      let b : take n bytes ≡ bytes = take_all n bytes past in
      subst (λ l. IsPayload enc l (take n bytes)) (sym c) (subst (IsPayload enc chars) (sym b) is)
]

-- the places from which and up to which a cover writes bytes: whole groups, which contain the range
record Bounds (enc : Enc) (size from count start past : ℕ) : Type 0 where
  pub groups : start % group_of enc ≡ 0
  pub more_groups : past < size → (past - start) % group_of enc ≡ 0
  pub before : start ≤ from
  pub behind : from + count ≤ past
  pub within : past ≤ size
  pub chars : chars_of enc start + chars_of enc (past - start) ≤ chars_of enc size
  pub few : count ≤ 32 → chars_of enc (past - start) ≤ 64

bounds : (enc : Enc) (size from count : ℕ) → from + count ≤ size
    → Bounds enc size from count (from / group_of enc * group_of enc) (min size (div_ceil (from + count) (group_of enc) * group_of enc))
bounds Hex size from count fits = record {
  groups = omega arith;
  more_groups = λ more. omega arith;
  before = omega arith;
  behind = omega arith;
  within = omega arith;
  chars = omega arith;
  few = λ few. omega arith;
}
bounds Base64 size from count fits = record {
  groups = omega arith;
  more_groups = λ more. omega arith;
  before = omega arith;
  behind = omega arith;
  within = omega arith;
  chars = omega arith;
  few = λ few. omega arith;
}

groups-covered : (enc : Enc) (chars bytes : List ℕ) (from count start past : ℕ) → IsPayload enc chars bytes → Bounds enc (length bytes) from count start past
    → IsCovered enc (record { first = chars_of enc start; chars = chars_of enc (past - start); skip = from - start; bytes = past - start }) chars bytes from count
groups-covered enc chars bytes from count start past is b =
    let rest : IsPayload enc (drop (chars_of enc start) chars) (drop start bytes) = payload-drop enc start chars bytes b.groups (omega (arith, b)) is in
    let room : past - start ≤ length (drop start bytes) = omega (arith, b, length-drop start bytes) in
    let there : start + (from - start) ≡ from = omega (arith, b) in
    record {
      within = omega (arith, b, length-payload enc chars bytes is);
      covered = take (past - start) (drop start bytes);
      payload = front-payload enc (drop (chars_of enc start) chars) (drop start bytes) (past - start) (λ fewer. b.more_groups (omega (arith, fewer, b, length-drop start bytes))) rest;
      size = length-take-le (past - start) (drop start bytes) room;
      range = part bytes start (from - start) (past - start) count (omega (arith, b)) ∙ ap (λ k. take count (drop k bytes)) there;
    }

-- nothing is covered by no characters
none-covered : (enc : Enc) (chars bytes : List ℕ) (from : ℕ) → IsPayload enc chars bytes
    → IsCovered enc (record { first = 0; chars = 0; skip = 0; bytes = 0 }) chars bytes from 0
none-covered Hex chars bytes from is =
    record { within = omega arith; covered = take 0 bytes; payload = payload-take Hex 0 chars bytes (omega arith) (omega arith) is; size = refl; range = refl }
none-covered Base64 chars bytes from is =
    record { within = omega arith; covered = take 0 bytes; payload = payload-take Base64 0 chars bytes (omega arith) (omega arith) is; size = refl; range = refl }

pub cover-covered : (enc : Enc) (chars bytes : List ℕ) (from count : ℕ) → IsPayload enc chars bytes → from + count ≤ length bytes
    → IsCovered enc (cover_of enc (length bytes) from count) chars bytes from count
cover-covered enc chars bytes from count is fits = elim (cases_eq count 0) [
  | inl none ↦ rw (none) (none-covered enc chars bytes from is)
  | inr some ↦ rw (ne_eqb count 0 some) (groups-covered enc chars bytes from count _ _ is (bounds enc (length bytes) from count fits))
]

-- ---- a range, read from the characters that cover it

-- bytes are no more than the characters that write them
fewer_bytes : (enc : Enc) (size : ℕ) → size ≤ chars_of enc size
fewer_bytes Hex size = omega arith
fewer_bytes Base64 size = omega arith

pub payload_of-size : (enc : Enc) (chars : List ℕ) (size : ℕ) → IsPayloadOf enc chars size → size ≤ length chars
payload_of-size enc chars size is = omega (arith, payload_of-length enc chars size is, fewer_bytes enc size)

pub covered_by : (enc : Enc) (chars bytes : List ℕ) (size from count : ℕ) (cover : Cover) → IsPayloadOf enc chars size → IsPayload enc chars bytes
    → from + count ≤ size → cover ≡ cover_of enc size from count → IsCovered enc cover chars bytes from count
covered_by enc chars bytes size from count cover whole is fits e =
    let same : length bytes ≡ size = ap length (payload-unique enc chars bytes whole.bytes is whole.payload) ∙ whole.count in
    let inside : from + count ≤ length bytes = omega (arith, fits, same) in
    subst (λ c. IsCovered enc c chars bytes from count) (ap (λ n. cover_of enc n from count) same ∙ sym e) (cover-covered enc chars bytes from count is inside)

pub cover_within : (enc : Enc) (chars : List ℕ) (size from count : ℕ) (cover : Cover) → IsPayloadOf enc chars size
    → from + count ≤ size → cover ≡ cover_of enc size from count → cover.first + cover.chars ≤ length chars
cover_within enc chars size from count cover whole fits e = (covered_by enc chars whole.bytes size from count cover whole whole.payload fits e).within

-- what the cover's characters are the payload of has the range behind what is skipped
pub range_read : (enc : Enc) (chars bytes read : List ℕ) (size from count : ℕ) (cover : Cover) → IsPayloadOf enc chars size → IsPayload enc chars bytes
    → from + count ≤ size → cover ≡ cover_of enc size from count → IsPayload enc (take cover.chars (drop cover.first chars)) read
    → take count (drop cover.skip read) ≡ take count (drop from bytes)
range_read enc chars bytes read size from count cover whole is fits e got =
    let c = covered_by enc chars bytes size from count cover whole is fits e in
    ap (λ bs. take count (drop cover.skip bs)) (payload-unique enc (take cover.chars (drop cover.first chars)) read c.covered got c.payload) ∙ c.range

-- the cover's characters are a payload of so many bytes
pub cover_read : (enc : Enc) (chars : List ℕ) (size from count : ℕ) (cover : Cover) → IsPayloadOf enc chars size
    → from + count ≤ size → cover ≡ cover_of enc size from count → IsPayloadOf enc (take cover.chars (drop cover.first chars)) cover.bytes
cover_read enc chars size from count cover whole fits e =
    let c = covered_by enc chars whole.bytes size from count cover whole whole.payload fits e in
    record { bytes = c.covered; count = c.size; payload = c.payload }

-- the same by the function
pub part_by : (enc : Enc) (chars read : List ℕ) (size from count : ℕ) → IsPayloadOf enc chars size
    → ((bytes : List ℕ) → IsPayload enc chars bytes → read ≡ take count (drop from bytes))
    → option_map (λ bytes. take count (drop from bytes)) (payload_bytes enc chars) ≡ Some read
part_by enc chars read size from count whole part =
    let found : payload_bytes enc chars ≡ Some whole.bytes = (payload-read enc chars whole.bytes).1 whole.payload in
    ap (option_map (λ bytes. take count (drop from bytes))) found ∙ ap Some (sym (part whole.bytes whole.payload))
