-- Covers: the characters of a payload that write a range of its bytes, both counted from 0.
use Rattle.std.specs.Prelude.{◌≡◌, ℕ, ◌+◌, ◌-◌, ◌*◌, ◌/◌, ◌==◌, ◌≤◌, List, length, take, drop, min, if◌then◌else◌}
use Rattle.std.specs.Int.{div_ceil}
use Rattle.binary_payloads.specs.declared.covers.Cover.{Cover}
use Rattle.binary_payloads.specs.declared.enc.Enc.{Enc}
use Rattle.binary_payloads.specs.Payload.{IsPayload, chars_of, group_of}

-- the characters that write `count` bytes from place `from` on, of a payload of `size` bytes: those of whole groups
-- of bytes, of which the payload's last may be short; none if `count` is 0
abbrev pub cover_of : Enc → ℕ → ℕ → ℕ → Cover
cover_of enc size from count =
    let start = from / group_of enc * group_of enc in
    let past = min size (div_ceil (from + count) (group_of enc) * group_of enc) in
    if count == 0 then record { first = 0; chars = 0; skip = 0; bytes = 0 }
    else record { first = chars_of enc start; chars = chars_of enc (past - start); skip = from - start; bytes = past - start }

-- the characters of a cover
abbrev pub chars_in : Cover → List ℕ → List ℕ
chars_in cover chars = take cover.chars (drop cover.first chars)

-- the characters of a cover are the payload of its bytes, which are those that are skipped, then the range
pub record IsCovered (enc : Enc) (cover : Cover) (chars bytes : List ℕ) (from count : ℕ) : Type 0 where
  pub within : cover.first + cover.chars ≤ length chars
  pub covered : List ℕ
  pub payload : IsPayload enc (chars_in cover chars) covered
  pub size : length covered ≡ cover.bytes
  pub range : take count (drop cover.skip covered) ≡ take count (drop from bytes)
