-- The laws of a redacted dump.
use Rattle.std.specs.Prelude.{◌≡◌, ℕ, List, length, All}
use Rattle.std.specs.List.{between}
use Rattle.dump_io.specs.Lines.{headers, raw_lines}
use Rattle.dump_sections.specs.Index.{dump_state, index_of}
use Rattle.dump_sections.specs.Sections.{Section, sections, tag_of}
use Rattle.binary_payloads.specs.declared.enc.Enc.{Enc}
use Rattle.dump_redact.specs.declared.parts.Part.{Part}
use Rattle.dump_redact.specs.declared.parts.Part.TheVariants.{Other}
use Rattle.dump_redact.specs.Bodies.{body_lines, redacted_body}
use Rattle.heap_cells.specs.Loading.{enc_of}
use Rattle.dump_redact.specs.Redacted.{redacted, part_of}

-- a redacted dump has as many bytes as the dump
abbrev pub KeepsLength : Type 0
KeepsLength = (bytes : List ℕ) → length (redacted bytes) ≡ length bytes

-- a redacted dump has the same sections
abbrev pub KeepsSections : Type 0
KeepsSections = (bytes : List ℕ) → sections (redacted bytes) ≡ sections bytes

-- a redacted dump is whole, or truncated, as the dump is
abbrev pub KeepsState : Type 0
KeepsState = (bytes : List ℕ) → dump_state (headers (redacted bytes)) ≡ dump_state (headers bytes)

-- the index of a redacted dump is that of the dump
abbrev pub KeepsIndex : Type 0
KeepsIndex = (bytes : List ℕ) → index_of (redacted bytes) ≡ index_of bytes

-- redacting a redacted dump again leaves it as it is
abbrev pub StaysRedacted : Type 0
StaysRedacted = (bytes : List ℕ) → redacted (redacted bytes) ≡ redacted bytes

-- a section of a dump and what it became: its header's line is the same, and its body is redacted by itself
pub record IsRedacted (enc : Enc) (before after : List ℕ) (section : Section) : Type 0 where
  pub line : between section.at section.body after ≡ between section.at section.body before
  pub body : between section.body section.end after ≡ redacted_body enc (part_of (tag_of section.text)) (between section.body section.end before)

-- each section is redacted by itself
abbrev pub RedactsSections : Type 0
RedactsSections = (bytes : List ℕ) → All (IsRedacted (enc_of (index_of bytes).version) bytes (redacted bytes)) (sections bytes)

-- the lines of a redacted body are its lines, redacted
abbrev pub RedactsLines : Type 0
RedactsLines = (enc : Enc) (part : Part) (body : List ℕ) → raw_lines (redacted_body enc part body) ≡ body_lines enc part (raw_lines body)

-- a body in which no payload stands stays the same
abbrev pub KeepsOthers : Type 0
KeepsOthers = (enc : Enc) (body : List ℕ) → redacted_body enc Other body ≡ body
