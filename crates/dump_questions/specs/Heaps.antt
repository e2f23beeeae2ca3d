-- What a question on the heap of a process means.
use Rattle.std.specs.Prelude.{ℕ, ◌+◌, ◌*◌, Bool, false, List, [], ◌++◌, length, min, Option, None, Some, nat_lt, if◌then◌else◌}
use Rattle.std.specs.Option.{option_or}
use Rattle.dump_io.specs.Limits.{Numbers}
use Rattle.dump_sections.specs.Loading.{bodies_length}
use Rattle.dump_sections.specs.Sections.{Section, sections}
use Rattle.heap_cells.specs.Cells.{line_cells}
use Rattle.heap_cells.specs.DumpHeaps.{heap_body, heap_map, heap_weight, literals_body, payloads_of}
use Rattle.heap_cells.specs.HeapMap.{HeapMap}
use Rattle.heap_cells.specs.Loading.{heap_bodies}
use Rattle.binary_refs.specs.Previews.{binaries}
use Rattle.report_text.specs.declared.refusals.Refusal.{Refusal}
use Rattle.report_text.specs.declared.refusals.Refusal.TheVariants.{TooDense, NoAddress}
use Rattle.term_unfold.specs.DumpWalks.{walk_of}
use Rattle.term_unfold.specs.Parts.{has_cell}
use Rattle.term_unfold.specs.Walks.{Walk}
use Rattle.dump_questions.specs.Meaning.{Meaning, no_body, no_process}

-- ---- why such a question is refused

-- the heap and the literals have more lines and elements than the limit
abbrev pub dense_cause : ℕ → ℕ → Option Refusal
dense_cause limit count = if nat_lt limit count then Some (TooDense count) else None

-- why the heap of a process is too dense, or `None`
abbrev pub too_dense : ℕ → List ℕ → List ℕ → Option Refusal
too_dense limit pid bytes = dense_cause limit (heap_weight pid bytes)

-- the heap has no cell at the address
abbrev pub address_cause : ℕ → Bool → Option Refusal
address_cause addr there = if there then None else Some (NoAddress addr)

-- why a term isn't there: its heap has no cell at the address
abbrev pub no_address : ℕ → HeapMap → Option Refusal
no_address addr heap = address_cause addr (has_cell heap.cells addr)

-- no refusal
abbrev pub never : {X : Type 0} → X → Option Refusal
never x = None

-- how many references to binaries the heap of a process has
abbrev pub binary_count : List ℕ → List ℕ → ℕ
binary_count pid bytes = length (binaries (heap_map pid bytes).cells)

-- how many bytes the bodies of the heap of a process and of the literals have, with two more for each of their heap lines
abbrev pub heap_text_size : List ℕ → List ℕ → ℕ
heap_text_size pid bytes =
    bodies_length (heap_bodies pid (sections bytes))
    + 2 * length (line_cells (payloads_of bytes) (heap_body pid bytes) ++ line_cells (payloads_of bytes) (literals_body bytes))

-- ---- a question on the heap of a process

-- what is asked of the heap of a process: the row of a command has one of the two below, with fields of its own
pub record HeapQuestion : Type 1 where
  -- the process with this pid
  pub pid : List ℕ
  -- the bodies that are read besides, before those of the heap
  pub also : List Section → List Section
  -- why the question is refused for what the heap holds
  pub refuses : HeapMap → Option Refusal
  -- what it shows of a dump
  pub What : Type 0
  -- what it shows of the dump with these bytes
  pub what : List ℕ → What
  -- how that is reported
  pub show : What → List ℕ
  -- how many bytes it takes besides those bodies
  pub more : Numbers → List ℕ → ℕ

-- a question that looks at the heap: its row says how it shows that
abbrev pub heap_question : List ℕ → HeapQuestion
heap_question pid = record {
  pid = pid;
  also = no_body;
  refuses = never;
  What = HeapMap;
  what = heap_map pid;
  show = λ heap. [];
  more = λ limits bytes. 0;
}

-- a question that walks over the heap: it also takes at most 128 bytes for each reference to a binary
abbrev pub walk_question : List ℕ → HeapQuestion
walk_question pid = record (heap_question pid) {
  What = Walk;
  what = walk_of pid;
  show = λ walk. [];
  more = λ limits bytes. 128 * binary_count pid bytes;
}

-- the most bytes that a question on a heap takes of a dump
abbrev pub heap_takes : HeapQuestion → Numbers → List ℕ → ℕ
heap_takes q limits bytes = bodies_length (q.also (sections bytes) ++ heap_bodies q.pid (sections bytes)) + q.more limits bytes

-- ---- kinds of these questions

-- a question that loads the other bodies and then the heap: it is refused if the process isn't there,
-- if one of the bodies is too large, if the heap is too dense, or for what the heap holds
abbrev pub on_heap : HeapQuestion → Meaning
on_heap q = record {
  What = q.What;
  what = q.what;
  show = q.show;
  found = None;
  refused_unread = no_process q.pid;
  bodies = λ ss. q.also ss ++ heap_bodies q.pid ss;
  refused_read = λ limits bytes. option_or (too_dense limits.dense q.pid bytes) (q.refuses (heap_map q.pid bytes));
  takes = heap_takes q;
  streams = false;
}

-- a question that goes over the other bodies and the heap whatever their sizes:
-- it is refused only if the process isn't there, or for what the heap holds
abbrev pub of_any_size : HeapQuestion → Meaning
of_any_size q = record (on_heap q) {
  bodies = no_body;
  refused_read = λ limits bytes. q.refuses (heap_map q.pid bytes);
}

-- a question that shows terms of a heap of any size by some of its lines alone: it also takes these lines, 16 bytes for each
-- of as many bytes as the heap's text has, or a section's body may have if that is less, and four more
abbrev pub of_part : HeapQuestion → Meaning
of_part q = of_any_size (record q {
  What = List ℕ;
  what = λ bytes. q.show (q.what bytes);
  show = λ text. text;
  more = λ limits bytes. 16 * (min limits.section (heap_text_size q.pid bytes) + 4) + q.more limits bytes;
})
