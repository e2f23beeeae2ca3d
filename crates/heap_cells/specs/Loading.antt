-- What loading a heap promises.
use Rattle.std.specs.Prelude.{◌≡◌, ℕ, ◌<◌, ◌≤◌, List, ◌++◌, Option, Some, Result, Ok, Err, IfOk, IsErrOf, codes, option_map}
use Rattle.std.specs.Option.{option_to_list}
use Rattle.dump_io.specs.Dumps.{DeviceState, Now, IfTold}
use Rattle.dump_io.specs.Faults.{Cause, refuses, fails, lacks, IsCauseOf}
use Rattle.dump_io.specs.Limits.{Numbers}
use Rattle.dump_sections.specs.declared.bodies.BodyFault.{BodyFault}
use Rattle.dump_sections.specs.declared.bodies.BodyFault.TheVariants as body
use Rattle.dump_sections.specs.Bodies.{section_in, body_in}
use Rattle.dump_sections.specs.Index.{Contents, sections_in}
use Rattle.dump_sections.specs.Loading.{bodies_length, body_fault, large_fault, Loads}
use Rattle.dump_sections.specs.Lookups.{first_named, first_tagged}
use Rattle.dump_sections.specs.Sections.{Section}
use Rattle.dump_sections.specs.declared.version.Version.{Version}
use Rattle.dump_sections.specs.declared.version.Version.TheVariants.{V03, V04, V05}
use Rattle.binary_payloads.specs.declared.enc.Enc.{Enc}
use Rattle.binary_payloads.specs.declared.enc.Enc.TheVariants.{Hex, Base64}
use Rattle.heap_cells.specs.declared.faults.HeapFault.{HeapFault}
use Rattle.heap_cells.specs.declared.faults.HeapFault.TheVariants.{SectionTooLarge, TooDense, Read, Memory}
use Rattle.heap_cells.specs.Cells.{cells_of, own_count, weight}
use Rattle.heap_cells.specs.HeapMap.{HeapMap}

-- payloads are written in hex in the versions 0.3 and 0.4, and in base64 in 0.5
abbrev pub enc_of : Version → Enc
enc_of V03 = Hex
enc_of V04 = Hex
enc_of V05 = Base64

-- the section with the heap of the process with this pid
abbrev pub heap_section : List ℕ → List Section → Option Section
heap_section pid sections = first_named (codes "proc_heap") pid sections

-- the section with the literals, to which every heap may refer
abbrev pub literals_section : List Section → Option Section
literals_section sections = first_tagged (codes "literals") sections

-- the sections with a heap and with the literals, in the order in which they are judged; either may be missing
abbrev pub two_bodies : Option Section → Option Section → List Section
two_bodies heap literals = option_to_list heap ++ option_to_list literals

-- the sections with the heap of the process with this pid and with the literals, as they are judged
abbrev pub heap_bodies : List ℕ → List Section → List Section
heap_bodies pid sections = two_bodies (heap_section pid sections) (literals_section sections)

-- the sections with a heap and with the literals at two places of an index, as they are judged
abbrev pub bodies_at : Contents → Option ℕ → Option ℕ → List Section
bodies_at index heap literals = two_bodies (section_in index heap) (section_in index literals)

-- the fault of a body, as a fault of the heap
abbrev pub heap_fault_of : BodyFault → HeapFault
heap_fault_of (body.SectionTooLarge at len) = SectionTooLarge at len
heap_fault_of body.Read = Read
heap_fault_of body.Memory = Memory

-- the refusal of the first of these bodies that has more bytes than the limit
abbrev pub bodies_fault : ℕ → List Section → Option HeapFault
bodies_fault limit bodies = option_map (λ large. heap_fault_of (body_fault large)) (large_fault limit bodies)

-- the map of the heap with these bodies
pub record IsMapOf (enc : Enc) (heap literals : List ℕ) (found : HeapMap) : Type 0 where
  pub cells : found.cells ≡ cells_of enc heap literals
  pub own : found.own ≡ own_count enc heap

-- what an answer says of these bodies: their map, or that they have more lines and elements than the limit
abbrev pub IsHeapAnswerFor : Enc → List ℕ → List ℕ → ℕ → Result HeapMap HeapFault → Type 0
IsHeapAnswerFor enc heap literals dense (Ok found) = IsMapOf enc heap literals found × (weight enc heap literals ≤ dense)
IsHeapAnswerFor enc heap literals dense (Err (TooDense count)) = (count ≡ weight enc heap literals) × (dense < count)
IsHeapAnswerFor enc heap literals dense (Err fault) = Unit {0}

-- what an answer says of two sections: a heap has the encoding of the dump's version,
-- and what is answered is right for their bodies, if the device tells the bytes
pub record IsHeapOf (now : Now) (index : Contents) (heap literals : Option Section) (dense : ℕ) (answer : Result HeapMap HeapFault) : Type 0 where
  pub enc : IfOk answer (λ found. found.enc ≡ enc_of index.version)
  pub told : IfTold now (λ dump. IsHeapAnswerFor (enc_of index.version) (body_in dump heap) (body_in dump literals) dense answer)

-- what an answer says of the heap of the process with this pid
abbrev pub IsHeapFor : Now → Contents → List ℕ → ℕ → Result HeapMap HeapFault → Type 0
IsHeapFor now index pid dense answer =
    let sections = sections_in index in
    IsHeapOf now index (heap_section pid sections) (literals_section sections) dense answer

-- what an answer says of the heap in the sections at two places of an index
abbrev pub IsHeapAt : Now → Contents → Option ℕ → Option ℕ → ℕ → Result HeapMap HeapFault → Type 0
IsHeapAt now index heap literals dense answer =
    IsHeapOf now index (section_in index heap) (section_in index literals) dense answer

-- what the fault of a heap says
abbrev pub heap_cause : HeapFault → Cause HeapFault
heap_cause Read = fails
heap_cause Memory = lacks
heap_cause refusal = refuses refusal

-- why a heap isn't loaded: it is too dense; or one of its bodies is too large, and this is the
-- first; or none is, and the device failed; memory may be lacking at any time
abbrev pub IsHeapCauseOf : Option HeapFault → ℕ → DeviceState → DeviceState → HeapFault → Type 0
IsHeapCauseOf refused dense before after (TooDense count) = dense < count
IsHeapCauseOf refused dense before after fault = IsCauseOf refused before after (heap_cause fault)

-- what each call does that loads the heap with these bodies
abbrev pub LoadsHeap : {D T : Type 0} → (D → DeviceState) → List Section → Numbers → D → D → Result T HeapFault → Type 0
LoadsHeap state bodies limits before after result =
    let refusal = bodies_fault limits.section bodies in
    Loads state (bodies_length bodies) refusal (IsHeapCauseOf refusal limits.dense) before after result

-- what a call does that loads the heap of the process with this pid
abbrev pub LoadsHeapFor : {D T : Type 0} → (D → DeviceState) → Contents → List ℕ → Numbers → D → D → Result T HeapFault → Type 0
LoadsHeapFor state index pid limits before after result =
    LoadsHeap state (heap_bodies pid (sections_in index)) limits before after result

-- what a call does that loads the heap in the sections at two places of an index
abbrev pub LoadsHeapAt : {D T : Type 0} → (D → DeviceState) → Contents → Option ℕ → Option ℕ → Numbers → D → D → Result T HeapFault → Type 0
LoadsHeapAt state index heap literals limits before after result =
    LoadsHeap state (bodies_at index heap literals) limits before after result

-- if one of these bodies is too large, the first is refused as such, whatever the device does
abbrev pub RefusesLarge : {T : Type 0} → ℕ → List Section → Result T HeapFault → Type 0
RefusesLarge limit bodies result = (fault : HeapFault) → bodies_fault limit bodies ≡ Some fault → IsErrOf result fault

-- why a heap isn't made of a text that is in memory: it is too dense, or memory was lacking
abbrev pub IsTextFault : HeapFault → Type 0
IsTextFault (SectionTooLarge at len) = ⊥
IsTextFault Read = ⊥
IsTextFault fault = Unit {0}
