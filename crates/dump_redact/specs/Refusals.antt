-- Why a dump isn't redacted.
use Rattle.std.specs.Prelude.{◌≡◌, ℕ, List, Option, None, Some, Result, IsErrOf, filter, option_map}
use Rattle.dump_io.specs.Dumps.{DeviceState}
use Rattle.dump_io.specs.Faults.{Cause, refuses, fails, lacks, IsCauseOf}
use Rattle.dump_io.specs.Sinks.{SinkState, SinkFailed}
use Rattle.dump_sections.specs.Bodies.{body_length}
use Rattle.dump_sections.specs.Loading.{first_large, Loads}
use Rattle.dump_sections.specs.Sections.{Section, tag_of}
use Rattle.dump_redact.specs.declared.faults.RedactFault.{RedactFault}
use Rattle.dump_redact.specs.declared.faults.RedactFault.TheVariants.{SectionTooLarge, Read, Write, Memory}
use Rattle.dump_redact.specs.Redacted.{is_heap_tag}
use Rattle.dump_sections.specs.Index.{Contents, sections_in}

-- the sections with heaps and literals, whose bodies are loaded, in the order of the dump
abbrev pub heap_sections : List Section → List Section
heap_sections sections = filter (λ s. is_heap_tag (tag_of s.text)) sections

-- the refusal of the first heap or literals whose body has more bytes than the limit
abbrev pub large_heap : ℕ → List Section → Option RedactFault
large_heap limit sections = option_map (λ s. SectionTooLarge s.at (body_length s)) (first_large limit (heap_sections sections))

-- what the fault of a redaction says of its refusal, of the device and of memory; that of the sink isn't among these
abbrev pub redact_cause : RedactFault → Cause RedactFault
redact_cause Read = fails
redact_cause Memory = lacks
redact_cause refusal = refuses refusal

-- why the dump isn't redacted to its end: this refusal; or there is none, and
-- the device or the sink failed; memory may be lacking at any time
abbrev pub IsRedactCauseOf : Option RedactFault → DeviceState → DeviceState → SinkState → SinkState → RedactFault → Type 0
IsRedactCauseOf refusal before after sink sink' Write = (refusal ≡ None) × SinkFailed sink sink'
IsRedactCauseOf refusal before after sink sink' fault = IsCauseOf refusal before after (redact_cause fault)

-- what the call does that redacts the dump with this index, between two states of its device and of its sink
abbrev pub LoadsDump : {D T : Type 0} → (D → DeviceState) → Contents → ℕ → SinkState → SinkState → D → D → Result T RedactFault → Type 0
LoadsDump state index limit sink sink' before after result =
    let refusal = large_heap limit (sections_in index) in
    Loads state index.size refusal (λ d d'. IsRedactCauseOf refusal d d' sink sink') before after result

-- if a heap or literals are too large, the first is refused as such, whatever the device and the sink do
abbrev pub RefusesLarge : {T : Type 0} → ℕ → Contents → Result T RedactFault → Type 0
RefusesLarge limit index result =
    (fault : RedactFault) → large_heap limit (sections_in index) ≡ Some fault → IsErrOf result fault
