-- The first bytes of a range of a binary, at most 32, or that they are unknown.
use Rattle.std.specs.Prelude.{ℕ, ◌+◌, ◌==◌, List, [], length, take, drop, min, nat_le, Option, None, Some, if◌then◌else◌}
use Rattle.std.specs.Option.{option_map, option_and_then}
use Rattle.dump_sections.specs.Bodies.{body_of}
use Rattle.dump_sections.specs.Index.{Contents, sections_in}
use Rattle.binary_payloads.specs.declared.covers.Cover.{Cover}
use Rattle.binary_payloads.specs.declared.enc.Enc.{Enc}
use Rattle.binary_payloads.specs.Cover.{cover_of, chars_in}
use Rattle.term_forms.specs.Words.{led_of}
use Rattle.binary_refs.specs.Payloads.{counted_bytes}
use Rattle.binary_refs.specs.StoredBinaries.{binary_section, body_at}
use Rattle.binary_refs.specs.declared.ranges.Range.{Range}

-- how many bytes of a range are shown
abbrev pub count_shown : ℕ → ℕ
count_shown size = min size 32

-- the bytes of a cover's characters, if all of these are there and are of the encoding
abbrev pub covered : Enc → List ℕ → Cover → Option (List ℕ)
covered enc chars cover =
    if nat_le (cover.first + cover.chars) (length chars)
    then counted_bytes enc cover.bytes (chars_in cover chars) else None

-- this many bytes of a range, from those of its cover, behind the ones that come before the range
abbrev pub covered_range : Enc → List ℕ → Cover → ℕ → Option (List ℕ)
covered_range enc chars cover count = option_map (λ bytes. take count (drop cover.skip bytes)) (covered enc chars cover)

-- `count` bytes from the offset on, of a binary of `len` bytes
-- with these characters; for no bytes, nothing is covered
abbrev pub bytes_from : Enc → ℕ → List ℕ → ℕ → ℕ → Option (List ℕ)
bytes_from enc len chars offset count =
    if count == 0 then Some [] else covered_range enc chars (cover_of enc len offset count) count

-- what is shown of a range, if it lies within the binary's length
abbrev pub in_chars : Enc → ℕ → List ℕ → ℕ → ℕ → Option (List ℕ)
in_chars enc len chars offset size =
    if nat_le (offset + size) len then bytes_from enc len chars offset (count_shown size) else None

-- what is shown of a range from the body of a `binary` section, which has its length in hex, `:`, and its characters
abbrev pub in_body : Enc → ℕ → ℕ → List ℕ → Option (List ℕ)
in_body enc offset size body = option_and_then (λ led. in_chars enc led.0 led.1 offset size) (led_of body)

-- what is shown of a range of the binary with this address, from the bytes of a dump
abbrev pub in_dump : List ℕ → Contents → Enc → ℕ → ℕ → ℕ → Option (List ℕ)
in_dump dump index enc address offset size =
    option_and_then (λ section. in_body enc offset size (body_of dump section)) (binary_section address (sections_in index))

-- what is shown of a range of the binary whose section is at a place of the index
abbrev pub in_section : List ℕ → Contents → ℕ → Enc → Range → Option (List ℕ)
in_section dump index place enc range = in_body enc range.offset range.size (body_at dump index place)

-- what is shown of a range, from the bytes of a dump
abbrev pub range_of : List ℕ → Contents → Enc → Range → Option (List ℕ)
range_of dump index enc range = in_dump dump index enc range.address range.offset range.size
