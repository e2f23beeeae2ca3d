-- Why a command ended without its whole report, and how its run ends.
use Rattle.dump_io.specs.declared.faults.ReadFault.TheVariants as read_faults
use Rattle.dump_sections.specs.declared.bodies.BodyFault.TheVariants as body_faults
use Rattle.section_index.specs.declared.opening.OpenFault.TheVariants as open_faults
use Rattle.binary_refs.specs.declared.faults.PreviewFault.TheVariants as preview_faults
use Rattle.heap_cells.specs.declared.faults.HeapFault.TheVariants as heap_faults
use Rattle.std.specs.Prelude.{◌≡◌, ℕ, Result, Ok, Err, Option, None, Some}
use Rattle.dump_io.specs.declared.faults.ReadFault.{ReadFault}
use Rattle.dump_sections.specs.declared.bodies.BodyFault.{BodyFault}
use Rattle.dump_sections.specs.declared.bodies.LargeSection.{LargeSection}
use Rattle.section_index.specs.declared.opening.OpenFault.{OpenFault}
use Rattle.report_text.specs.declared.refusals.Refusal.TheVariants.{Open, SectionTooLarge, TooDense}
use Rattle.report_text.specs.Refusals.{IsRefusal, refusal_line}
use Rattle.dump_io.specs.Sinks.{SinkState, IsKept}
use Rattle.binary_refs.specs.declared.faults.PreviewFault.{PreviewFault}
use Rattle.heap_cells.specs.declared.faults.HeapFault.{HeapFault}
use Rattle.report_text.specs.declared.refusals.Refusal.{Refusal}
use Rattle.dump_questions.specs.Tasks.{large_refusal}
use Rattle.dump_questions.specs.Run.{EndsTold}
use Rattle.dump_questions.specs.declared.stop.Stop.{Stop}
use Rattle.dump_questions.specs.declared.stop.Stop.TheVariants.{Refused, NotRead, NotWritten, NoMemory}

-- the stop of a question whose dump isn't opened
abbrev pub stop_of_opening : OpenFault → Stop
stop_of_opening open_faults.Read = NotRead
stop_of_opening open_faults.Memory = NoMemory
stop_of_opening fault = Refused (Open fault)

-- the stop of a question one of whose bodies isn't loaded
abbrev pub stop_of_body : BodyFault → Stop
stop_of_body body_faults.Read = NotRead
stop_of_body body_faults.Memory = NoMemory
stop_of_body (body_faults.SectionTooLarge at len) = Refused (SectionTooLarge at len)

-- the stop of a question one of whose bodies is too large
abbrev pub stop_of_large : LargeSection → Stop
stop_of_large large = Refused (large_refusal large)

-- the stop of a question that couldn't read on, which is no refusal
abbrev pub stop_of_reading : ReadFault → Stop
stop_of_reading read_faults.Read = NotRead
stop_of_reading read_faults.Memory = NoMemory

-- what was loaded, or the stop of the question
abbrev pub or_stop : {T : Type 0} → Result T BodyFault → Result T Stop
or_stop (Ok value) = Ok value
or_stop (Err fault) = Err (stop_of_body fault)

-- a stop that is no refusal, or one that has a line
abbrev pub IsProper : Stop → Type 0
IsProper (Refused why) = IsRefusal why
IsProper stop = Unit {0}

-- the status of a run whose command ended in this way, and what `err` got
abbrev pub EndsAs : Result ℕ Stop → ℕ → SinkState → SinkState → Type 0
EndsAs (Ok status) result before after = (result ≡ status) × IsKept before after
EndsAs (Err (Refused why)) result before after = EndsTold 2 (refusal_line why) result before after
EndsAs (Err NotRead) result before after = (result ≡ 4) × IsKept before after
EndsAs (Err NotWritten) result before after = (result ≡ 5) × IsKept before after
EndsAs (Err NoMemory) result before after = (result ≡ 6) × IsKept before after

-- ---- why a question on terms or a binary ended without its whole report

-- the stop of a question whose heap isn't loaded
abbrev pub stop_of_heap : HeapFault → Stop
stop_of_heap heap_faults.Read = NotRead
stop_of_heap heap_faults.Memory = NoMemory
stop_of_heap (heap_faults.SectionTooLarge at len) = Refused (SectionTooLarge at len)
stop_of_heap (heap_faults.TooDense count) = Refused (TooDense count)

-- the stop of a question whose previews aren't loaded
abbrev pub stop_of_previews : PreviewFault → Stop
stop_of_previews preview_faults.Read = NotRead
stop_of_previews preview_faults.Memory = NoMemory

-- if there is no cause of a refusal, the question goes on, and otherwise
-- it is refused for that cause; memory may be lacking at any time
abbrev pub Judges : {T : Type 0} → Option Refusal → Result T Stop → Type 0
Judges cause (Ok value) = cause ≡ None
Judges cause (Err (Refused why)) = IsRefusal why × (cause ≡ Some why)
Judges cause (Err NotRead) = ⊥
Judges cause (Err NotWritten) = ⊥
Judges cause (Err NoMemory) = Unit {0}
