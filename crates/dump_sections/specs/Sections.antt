-- The sections of a dump: each header with the bytes up to the next one.
use Rattle.std.specs.Prelude.{ℕ, ◌+◌, List, [], ◌∷◌, length, drop, slice_get, Option, None, Some, if◌then◌else◌}
use Rattle.dump_io.specs.Colons.{has_colon, before_colon, after_colon}
use Rattle.dump_io.specs.Lines.{Header, headers}

-- a header's text after its equals sign
abbrev pub header_name : List ℕ → List ℕ
header_name text = drop 1 text

-- the tag stands between the equals sign and the first colon, or the end of the text
abbrev pub tag_of : List ℕ → List ℕ
tag_of text = before_colon (header_name text)

-- the id follows that colon; without a colon there is no id
abbrev pub id_of : List ℕ → Option (List ℕ)
id_of text = if has_colon (header_name text) then Some (after_colon (header_name text)) else None

-- a section: where its header begins, where its body begins and ends, and its header's text
pub record Section : Type 0 where
  pub at : ℕ
  pub body : ℕ
  pub end : ℕ
  pub text : List ℕ

-- a section by its four parts
abbrev pub section : ℕ → ℕ → ℕ → List ℕ → Section
section at body end text = record { at = at; body = body; end = end; text = text }

-- a header by its three parts
abbrev pub header : ℕ → ℕ → List ℕ → Header
header at body text = record { at = at; body = body; text = text }

-- the offset at which the next header begins, or the size of the dump
abbrev pub next_at : Option Header → ℕ → ℕ
next_at None size = size
next_at (Some next) size = next.at

-- where the section at a place ends
abbrev pub end_at : List Header → ℕ → ℕ → ℕ
end_at headers size i = next_at (slice_get headers (i + 1)) size

-- each section ends where the next header begins, and the last at the end of the dump
abbrev pub sections_of : List Header → ℕ → List Section
sections_of [] size = []
sections_of (first ∷ rest) size =
    section first.at first.body (next_at (slice_get rest 0) size) first.text ∷ sections_of rest size

-- the sections of the bytes of a dump, in order
abbrev pub sections : List ℕ → List Section
sections bytes = sections_of (headers bytes) (length bytes)
