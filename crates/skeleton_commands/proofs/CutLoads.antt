-- What a question on a heap of any size has read whose report ends with what a truncated dump may lack.
use Rattle.std.proofs.Common.{◌≡◌, ◌≤◌, ◌+◌, ◌++◌, ap₂, List, None, ℕ}
use Rattle.dump_io.specs.Dumps.{DeviceState, ReadsAtMost}
use Rattle.dump_io.specs.Limits.{Numbers}
use Rattle.dump_questions.specs.Heaps.{HeapQuestion}
use Rattle.dump_questions.specs.Laws.Heaps.{Takes-any}
use Rattle.dump_questions.specs.Meaning.{no_process}
use Rattle.dump_questions.specs.Reading.{IsIndexed, Takes}
use Rattle.dump_sections.specs.Index.{index_of, sections_in, Contents}
use Rattle.dump_sections.specs.Loading.{bodies_length}
use Rattle.heap_cells.specs.Loading.{heap_bodies}
use Rattle.root_views.specs.declared.kinds.RootKind.{RootKind}
use Rattle.term_text.specs.Cuts.{cut_report}
use Rattle.skeleton_commands.specs.Rows.{with_cuts, Indexed}

-- so many bytes were read for the question, whose process is there
pub Takes-cuts : (kinds : List RootKind) (q : HeapQuestion) (limits : Numbers) (index : Contents) (old new : DeviceState) → no_process q.pid (sections_in index) ≡ None
    → (count : ℕ) → ReadsAtMost old new count
    → ((bytes : List ℕ) → IsIndexed bytes limits index old.now
    → count ≤ bodies_length (q.also (sections_in index)) + bodies_length (heap_bodies q.pid (sections_in index)) + q.more limits bytes)
    → Takes (with_cuts kinds q) limits index old new
Takes-cuts kinds q limits index old new there count reads few =
    Takes-any {A = Indexed q.What} q.pid q.also q.refuses (λ bytes. record { index = index_of bytes; seen = q.what bytes }) (λ s. q.show s.seen ++ cut_report s.index q.pid kinds)
    q.more limits index old new there count reads few

-- what was seen over the index of a dump is seen in the dump
pub seen-indexed : {A : Type 0} {index other : Contents} {seen told : A} → index ≡ other → seen ≡ told
    → (let one : Indexed A = record { index = index; seen = seen } in one) ≡ record { index = other; seen = told }
seen-indexed {A} is same = ap₂ (λ i s. (let one : Indexed A = record { index = i; seen = s } in one)) is same
