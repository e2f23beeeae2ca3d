-- Whole binaries, from the first lines of their sections' bodies.
use Rattle.std.specs.Prelude.{◌≡◌, ℕ, List, [], ◌∷◌, Option, None, Some, Result, Ok, Err, IfSome, IsErrOf, slice_get}
use Rattle.std.specs.Global.{Vec}
use Rattle.std.specs.Option.{option_map, option_and_then}
use Rattle.dump_io.specs.Dumps.{DeviceState}
use Rattle.dump_io.specs.Faults.{Cause, refuses, fails, lacks, IsCauseOf}
use Rattle.field_lines.specs.Lines.{text_lines}
use Rattle.dump_sections.specs.Bodies.{body_of, body_size}
use Rattle.dump_sections.specs.Index.{Contents, sections_in}
use Rattle.dump_sections.specs.Loading.{body_fault, large_fault, Loads}
use Rattle.dump_sections.specs.Sections.{Section}
use Rattle.dump_sections.specs.declared.bodies.BodyFault.{BodyFault}
use Rattle.dump_sections.specs.declared.bodies.BodyFault.TheVariants as body
use Rattle.binary_payloads.specs.declared.enc.Enc.{Enc}
use Rattle.term_forms.specs.Words.{led_of}
use Rattle.binary_refs.specs.declared.faults.BinFault.{BinFault}
use Rattle.binary_refs.specs.declared.faults.BinFault.TheVariants.{NoBinary, SectionTooLarge, BadBinary, Read, Memory}
use Rattle.heap_cells.specs.Loading.{enc_of}
use Rattle.binary_refs.specs.Payloads.{counted_bytes}
use Rattle.binary_refs.specs.StoredBinaries.{binary_section}

-- the text of a body's first line; an empty body has none
abbrev pub first_line_text : List ℕ → Option (List ℕ)
first_line_text body = option_map (λ line. line.text) (slice_get (text_lines body) 0)

-- the bytes of a text that is a length in hex, `:`, and the payload of that many bytes
abbrev pub bytes_of_text : Enc → List ℕ → Option (List ℕ)
bytes_of_text enc text = option_and_then (λ led. counted_bytes enc led.0 led.1) (led_of text)

-- the bytes of a `binary` section's body, if its first line is such a text
abbrev pub bytes_of_body : Enc → List ℕ → Option (List ℕ)
bytes_of_body enc body = option_and_then (bytes_of_text enc) (first_line_text body)

-- the bytes of the first `binary` section with this address, from the bytes of a dump
abbrev pub whole_bytes : List ℕ → Contents → ℕ → Option (List ℕ)
whole_bytes dump index address =
    option_and_then (λ section. bytes_of_body (enc_of index.version) (body_of dump section)) (binary_section address (sections_in index))

-- what an answer says of these bytes: it gives them, or if it says that the binary is malformed, there are none
abbrev pub IsBinAnswerFor : Option (List ℕ) → Result (Vec ℕ) BinFault → Type 0
IsBinAnswerFor bytes (Ok given) = bytes ≡ Some given.items
IsBinAnswerFor bytes (Err (BadBinary at)) = bytes ≡ None
IsBinAnswerFor bytes (Err fault) = Unit {0}

-- the fault of a body, as a fault of its binary
abbrev pub bin_fault_of : BodyFault → BinFault
bin_fault_of (body.SectionTooLarge at len) = SectionTooLarge at len
bin_fault_of body.Read = Read
bin_fault_of body.Memory = Memory

-- the refusals before anything is read, by the section that was found: there is none, or its body is too large
abbrev pub refused : ℕ → Option Section → Option BinFault
refused limit None = Some NoBinary
refused limit (Some section) = option_map (λ large. bin_fault_of (body_fault large)) (large_fault limit (section ∷ []))

-- a refusal that comes before anything is read is what the call ends with, whatever the device does
abbrev pub IsRefusedFor : {T : Type 0} → ℕ → Option Section → Result T BinFault → Type 0
IsRefusedFor limit found result = IfSome (refused limit found) (IsErrOf result)

-- what the fault of a binary says
abbrev pub bin_cause : BinFault → Cause BinFault
bin_cause Read = fails
bin_cause Memory = lacks
bin_cause refusal = refuses refusal

-- why no bytes are given: the first line of the section isn't of the grammar; or there is a refusal before
-- anything is read; or there is none, and the device failed; memory may be lacking at any time
abbrev pub IsBinCauseOf : Option Section → ℕ → DeviceState → DeviceState → BinFault → Type 0
IsBinCauseOf found limit before after (BadBinary at) = option_map (λ section. section.at) found ≡ Some at
IsBinCauseOf found limit before after fault = IsCauseOf (refused limit found) before after (bin_cause fault)

-- what each call does that loads the binary whose section was found
abbrev pub LoadsBinary : {D T : Type 0} → (D → DeviceState) → Option Section → ℕ → D → D → Result T BinFault → Type 0
LoadsBinary state found limit before after result =
    Loads state (body_size found) (refused limit found) (IsBinCauseOf found limit) before after result

-- what a call does that loads the first `binary` section with this address
abbrev pub LoadsBinaryOf : {D T : Type 0} → (D → DeviceState) → Contents → ℕ → ℕ → D → D → Result T BinFault → Type 0
LoadsBinaryOf state index address limit before after result =
    LoadsBinary state (binary_section address (sections_in index)) limit before after result
