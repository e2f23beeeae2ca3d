-- Where payloads stand, and what a dump has between two sections.
use Rattle.std.specs.Prelude.{◌≡◌, ◌⊎◌, ℕ, ◌+◌, ◌-◌, ◌&&◌, ◌≤◌, List, ◌++◌, length, take, drop, codes, slice_get, nat_lt, Option, None, Some, option_map, if◌then◌else◌}
use Rattle.std.specs.List.{between}
use Rattle.dump_io.specs.Limits.{usual}
use Rattle.dump_io.specs.Lines.{text_of}
use Rattle.dump_sections.specs.Bodies.{body_length}
use Rattle.dump_sections.specs.Index.{Contents, IsIndexOf}
use Rattle.dump_sections.specs.Sections.{Section, next_at, tag_of}
use Rattle.binary_payloads.specs.declared.enc.Enc.{Enc}
use Rattle.term_forms.specs.Words.{led_of, IsLed}
use Rattle.dump_redact.specs.declared.faults.RedactFault.{RedactFault}
use Rattle.dump_redact.specs.declared.faults.RedactFault.TheVariants.{SectionTooLarge}
use Rattle.dump_redact.specs.declared.parts.Part.{Part}
use Rattle.dump_redact.specs.declared.parts.Part.TheVariants.{Heap, Binary}
use Rattle.dump_redact.specs.Bodies.{redacted_body}
use Rattle.dump_redact.specs.Redacted.{is_heap_tag, payload_in, part_of, redacted}
use Rattle.heap_cells.specs.Loading.{enc_of}

-- where the payload begins in a heap line, if it has one
abbrev pub payload_place : Enc → List ℕ → Option ℕ
payload_place enc raw = option_map (λ chars. length (text_of raw) - length chars) (payload_in enc Heap (text_of raw))

-- each `:Yh` has its `Y` at this place or behind it
abbrev pub AreMarksFrom : ℕ → List ℕ → Type 0
AreMarksFrom place bytes = (front more : List ℕ) → bytes ≡ front ++ (codes ":Yh" ++ more) → place ≤ length front + 1

-- where the payload of a binary begins in the body: after a number and its colon
abbrev pub IsLeadOf : List ℕ → Option ℕ → Type 0
IsLeadOf body None = led_of body ≡ None
IsLeadOf body (Some place) = (n : ℕ) × IsLed body n (drop place body)

-- the offset at which the section at a place begins; past the last one, the size of the dump
abbrev pub offset_of : Contents → ℕ → ℕ
offset_of index i = next_at (slice_get index.headers i) index.size

-- how many bytes the sections from one place up to another have
abbrev pub length_between : Contents → ℕ → ℕ → ℕ
length_between index i next = offset_of index next - offset_of index i

-- the bytes of a dump in the sections from one place up to another
abbrev pub text_between : Contents → ℕ → ℕ → List ℕ → List ℕ
text_between index i next dump = between (offset_of index i) (offset_of index next) dump

-- a piece that has exactly what a dump has of these sections becomes what the redacted dump has of them
abbrev pub RedactsPiece : Contents → ℕ → ℕ → List ℕ → List ℕ → Type 0
RedactsPiece index i next piece piece' = (dump : List ℕ) → IsIndexOf dump index
    → piece ≡ text_between index i next dump → piece' ≡ text_between index i next (redacted dump)

-- what a dump has from an offset up to the body of a binary, which ends at another offset, and that body redacted
abbrev pub binary_text : Enc → ℕ → ℕ → ℕ → List ℕ → List ℕ
binary_text enc from body upto dump = between from body dump ++ redacted_body enc Binary (between body upto dump)

-- what a dump has of one section, with its body redacted
abbrev pub text_of_section : Enc → Part → Section → List ℕ → List ℕ
text_of_section enc part section dump = between section.at section.body dump ++ redacted_body enc part (between section.body section.end dump)

-- bytes, with those between two places redacted as a body
abbrev pub redacted_between : Enc → Part → ℕ → ℕ → List ℕ → List ℕ
redacted_between enc part low high bytes = take low bytes ++ (redacted_body enc part (between low high bytes) ++ drop high bytes)

-- a piece that begins at an offset, with the body of a section of an index redacted
abbrev pub redacted_at : Contents → Section → ℕ → List ℕ → List ℕ
redacted_at index section from piece =
    redacted_between (enc_of index.version) (part_of (tag_of section.text)) (section.body - from) (section.end - from) piece

-- the piece is how the body begins
abbrev pub Begins : List ℕ → List ℕ → Type 0
Begins piece body = piece ≡ take (length piece) body

-- the piece has the whole number with which the body begins and its colon, if it begins so, or it is the whole body
abbrev pub HasLead : List ℕ → List ℕ → Type 0
HasLead piece body = (17 ≤ length piece) ⊎ (length piece ≡ length body)

-- a piece has room for the line of a header, followed by a number of 16 digits and its colon
abbrev pub HasRoom : List ℕ → Type 0
HasRoom piece = usual.header + 18 ≤ length piece

-- the refusal of one section
abbrev pub fault_at : ℕ → Section → Option RedactFault
fault_at limit section =
    if is_heap_tag (tag_of section.text) && nat_lt limit (body_length section) then Some (SectionTooLarge section.at (body_length section)) else None
