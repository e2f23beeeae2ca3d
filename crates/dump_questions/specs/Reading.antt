-- What is known of a dump that was opened, what a question reads of it, and what it leaves of its report.
use Rattle.std.specs.Prelude.{◌≡◌, ◌⊎◌, ℕ, ◌≤◌, List, length, Option, None, Some, Result, Ok, Err, IsSome, MatchResult, ◌++◌}
use Rattle.std.specs.Option.{option_or}
use Rattle.dump_io.specs.Counts.{plus_capped}
use Rattle.dump_io.specs.Dumps.{Now, told, IsAbsent, DeviceState, DeviceFailed, ReadsAtMost}
use Rattle.dump_io.specs.Limits.{Numbers}
use Rattle.dump_sections.specs.Index.{Contents, IsBuiltOver, IsIndexOf, index_of, sections_in}
use Rattle.section_index.specs.Answers.{IsFileOf}
use Rattle.section_index.specs.Opening.{IsAccepted, IsRefusedFor}
use Rattle.section_index.specs.declared.opening.OpenFault.{OpenFault}
use Rattle.report_text.specs.declared.refusals.Refusal.{Refusal}
use Rattle.report_text.specs.declared.refusals.Refusal.TheVariants.{Open}
use Rattle.report_text.specs.Refusals.{IsRefusal}
use Rattle.dump_io.specs.Sinks.{SinkState, SinkFailed, IsKept, Gained, GainedFront}
use Rattle.dump_sections.specs.Loading.{bodies_length}
use Rattle.dump_sections.specs.Sections.{Section}
use Rattle.heap_cells.specs.HeapMap.{HeapMap}
use Rattle.dump_questions.specs.declared.stop.Stop.{Stop}
use Rattle.dump_questions.specs.declared.stop.Stop.TheVariants.{Refused, NotRead, NotWritten, NoMemory}
use Rattle.dump_questions.specs.Meaning.{Meaning, no_process}
use Rattle.dump_questions.specs.Tasks.{refusal_listed, status_for, too_large}
use Rattle.dump_questions.specs.Run.{Untouched}
use Rattle.heap_cells.specs.Loading.{heap_bodies}
use Rattle.heap_cells.specs.DumpHeaps.{heap_map}
use Rattle.dump_questions.specs.Heaps.{too_dense}

-- these bytes are accepted as a dump and open, and this is their index
pub record IsIndexed (bytes : List ℕ) (limits : Numbers) (index : Contents) (now : Now) : Type 0 where
  pub accepted : IsAccepted bytes limits
  pub of : IsIndexOf bytes index
  pub is : index ≡ index_of bytes
  pub opened : now ≡ told bytes

-- the dump with this name was opened and accepted, and this is its index
pub record HasOpened (name : List ℕ) (limits : Numbers) (before after : DeviceState) (index : Contents) : Type 0 where
  pub there : IsAbsent before.files name → ⊥
  pub same_files : after.files ≡ before.files
  pub later : before.faults ≤ after.faults
  pub over : IsBuiltOver after.now index
  pub told : (bytes : List ℕ) → IsFileOf before after name bytes → IsIndexed bytes limits index after.now
  pub taken : (bytes : List ℕ) → IsFileOf before after name bytes → after.taken ≤ plus_capped before.taken (length bytes)

-- the dump with this name is refused
pub record IsRefusedAs (name : List ℕ) (limits : Numbers) (before after : DeviceState) (why : Refusal) : Type 0 where
  pub proper : IsRefusal why
  pub there : IsAbsent before.files name → ⊥
  pub told : (bytes : List ℕ) → IsFileOf before after name bytes
      → (fault : OpenFault) × IsRefusedFor bytes limits fault × (why ≡ Open fault)

-- why the dump with this name is not opened, by how the question stopped
abbrev pub IsUnopenedFor : List ℕ → Numbers → DeviceState → DeviceState → Stop → Type 0
IsUnopenedFor name limits before after (Refused why) = IsRefusedAs name limits before after why
IsUnopenedFor name limits before after NotRead = DeviceFailed before after ⊎ IsAbsent before.files name
IsUnopenedFor name limits before after NotWritten = ⊥
IsUnopenedFor name limits before after NoMemory = Unit {0}

-- why the dump with this name wasn't opened
pub record IsUnopened (name : List ℕ) (limits : Numbers) (before after : DeviceState) (stop : Stop) : Type 0 where
  pub cause : IsUnopenedFor name limits before after stop
  pub gone : IsAbsent before.files name → Untouched before after
  pub same_files : after.files ≡ before.files
  pub later : before.faults ≤ after.faults
  pub taken : (bytes : List ℕ) → IsFileOf before after name bytes → after.taken ≤ plus_capped before.taken (length bytes)

-- ---- what a question reads of the open dump, and what it leaves of its report

-- why a question to an accepted dump with this index is refused: the first cause that holds
abbrev pub refusal_over : Meaning → Contents → List ℕ → Numbers → Option Refusal
refusal_over means index bytes limits = option_or (refusal_listed means (sections_in index) limits) (means.refused_read limits bytes)

-- a question takes at most as much of the open dump as it may take after
-- the pass over it, and nothing if a refusal comes before the bodies
pub record Takes (means : Meaning) (limits : Numbers) (index : Contents) (before after : DeviceState) : Type 0 where
  pub bytes : ℕ
  pub reads : ReadsAtMost before after bytes
  pub few : (all : List ℕ) → IsIndexed all limits index before.now → bytes ≤ means.takes limits all
  pub unread : IsSome (refusal_listed means (sections_in index) limits) → ReadsAtMost before after 0

-- a question stopped while it read: it is refused for a cause with this
-- property, or the device failed; memory may be lacking at any time
abbrev pub StopsFor : DeviceState → DeviceState → (Refusal → Type 0) → Stop → Type 0
StopsFor before after P (Refused why) = IsRefusal why × P why
StopsFor before after P NotRead = DeviceFailed before after
StopsFor before after P NotWritten = ⊥
StopsFor before after P NoMemory = Unit {0}

-- why a question stopped while it read, and what it took
pub record IsHalted (means : Meaning) (limits : Numbers) (index : Contents) (before after : DeviceState) (stop : Stop) : Type 0 where
  pub takes : Takes means limits index before after
  pub cause : StopsFor before after
      (λ why. (bytes : List ℕ) → IsIndexed bytes limits index before.now → refusal_over means index bytes limits ≡ Some why) stop

-- a question has read all: nothing is refused, and it saw this of the dump
pub record HasRead (means : Meaning) (limits : Numbers) (index : Contents) (before after : DeviceState) (seen : means.What) : Type 0 where
  pub takes : Takes means limits index before after
  pub told : (bytes : List ℕ) → IsIndexed bytes limits index before.now
      → (refusal_over means index bytes limits ≡ None) × (seen ≡ means.what bytes)

-- a question reads what its report is written from, or returns why it didn't
abbrev pub ReadsFor : {V : Type 0} (means : Meaning) → Numbers → Contents → DeviceState → DeviceState → (V → means.What)
    → Result V Stop → Type 0
ReadsFor means limits index before after seen result =
    MatchResult result (λ loaded. HasRead means limits index before after (seen loaded)) (IsHalted means limits index before after)

-- what writing a text leaves, after which a run ends with this status
abbrev pub Tells : SinkState → SinkState → List ℕ → ℕ → Result ℕ Stop → Type 0
Tells before after text status (Ok ended) = (ended ≡ status) × Gained before after text
Tells before after text status (Err (Refused why)) = ⊥
Tells before after text status (Err NotRead) = ⊥
Tells before after text status (Err NotWritten) = GainedFront before after text × SinkFailed before after
Tells before after text status (Err NoMemory) = IsKept before after

-- what writing the report of a question on what was seen leaves
abbrev pub TellsOf : (means : Meaning) → means.What → SinkState → SinkState → Result ℕ Stop → Type 0
TellsOf means seen before after ended = Tells before after (means.show seen) (status_for means seen) ended

-- ---- what is known of the heap of a process that a question loads, and why it isn't loaded

-- why a question that loads these bodies and then the heap of a process is refused before it reads any of them
abbrev pub heap_listed : List ℕ → List Section → Numbers → List Section → Option Refusal
heap_listed pid before limits sections = option_or (no_process pid sections) (too_large limits.section (before ++ heap_bodies pid sections))

-- the heap of a process was loaded: no refusal comes before it, and it is that of the dump
pub record HoldsHeap (pid : List ℕ) (before : List Section) (limits : Numbers) (index : Contents)
    (now : Now) (heap : HeapMap) : Type 0 where
  pub listed : heap_listed pid before limits (sections_in index) ≡ None
  pub sparse : (bytes : List ℕ) → IsIndexed bytes limits index now → too_dense limits.dense pid bytes ≡ None
  pub is : (bytes : List ℕ) → IsIndexed bytes limits index now → heap ≡ heap_map pid bytes

-- why the heap of a process wasn't loaded: a refusal before any body is read, a
-- heap that is too dense, or the device failed; memory may be lacking at any time
abbrev pub IsHeapless : List ℕ → List Section → Numbers → Contents → DeviceState → DeviceState → Stop → Type 0
IsHeapless pid before limits index old new stop =
    StopsFor old new (λ why. (bytes : List ℕ) → IsIndexed bytes limits index old.now
    → option_or (heap_listed pid before limits (sections_in index)) (too_dense limits.dense pid bytes) ≡ Some why) stop

-- what a call does that loads the heap of a process behind these bodies: it reads at most the
-- heap's own, and nothing if a refusal comes before; and the heap was loaded, or wasn't
pub record GivesHeap {D : Type 0} (state : D → DeviceState) (pid : List ℕ) (before : List Section) (limits : Numbers)
    (index : Contents) (old new : D) (result : Result HeapMap Stop) : Type 0 where
  pub reads : ReadsAtMost (state old) (state new) (bodies_length (heap_bodies pid (sections_in index)))
  pub unread : IsSome (heap_listed pid before limits (sections_in index)) → new ≡ old
  pub heap : MatchResult result (HoldsHeap pid before limits index (state old).now)
      (IsHeapless pid before limits index (state old) (state new))
