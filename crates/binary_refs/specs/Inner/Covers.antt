-- The bytes that the characters of a cover write, and those of a body whose beginning is known.
use Rattle.std.specs.Prelude.{ℕ, List, take, drop, Option}
use Rattle.std.specs.Option.{option_map}
use Rattle.binary_payloads.specs.declared.covers.Cover.{Cover}
use Rattle.binary_payloads.specs.declared.enc.Enc.{Enc}
use Rattle.binary_refs.specs.Payloads.{counted_bytes}
use Rattle.binary_refs.specs.declared.leads.Lead.{Lead}
use Rattle.binary_refs.specs.Ranges.{bytes_from}

-- this many bytes of the range, from the characters of its cover alone
abbrev pub range_by : Enc → Cover → ℕ → List ℕ → Option (List ℕ)
range_by enc cover count chars = option_map (λ bytes. take count (drop cover.skip bytes)) (counted_bytes enc cover.bytes chars)

-- this many bytes of the range, where the characters of its cover begin at this place of a body
abbrev pub range_at : Enc → Cover → ℕ → ℕ → List ℕ → Option (List ℕ)
range_at enc cover count from body = range_by enc cover count (take cover.chars (drop from body))

-- this many bytes from an offset on, from a body that begins so
abbrev pub bytes_behind : Enc → Lead → ℕ → ℕ → List ℕ → Option (List ℕ)
bytes_behind enc lead offset count body = bytes_from enc lead.length (drop lead.chars body) offset count
