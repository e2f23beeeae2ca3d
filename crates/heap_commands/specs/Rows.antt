-- What each question of this crate means, in one row.
use Rattle.dump_questions.specs.Meaning.{of_bodies, part_in, Meaning, Part}
use Rattle.dump_questions.specs.Heaps.{heap_question, no_address, of_part, on_heap, walk_question, HeapQuestion}
use Rattle.heap_commands.specs.Terms.{bad_binary, binary_bytes, binary_cause, external_at, no_external, root_terms}
use Rattle.std.specs.Prelude.{◌++◌, ◌∷◌, [], unwrap_or, Bool, List, ℕ}
use Rattle.std.specs.Option.{option_to_list}
use Rattle.root_views.specs.Kinds.{roots_in}
use Rattle.root_views.specs.Sections.{root_bodies, root_section}
use Rattle.term_forms.specs.Elements.{Element}
use Rattle.dump_sections.specs.Index.{index_of}
use Rattle.dump_sections.specs.Sections.{Section}
use Rattle.heap_cells.specs.DumpHeaps.{heap_map}
use Rattle.heap_cells.specs.HeapMap.{HeapMap}
use Rattle.binary_refs.specs.StoredBinaries.{binary_section}
use Rattle.term_unfold.specs.DumpWalks.{walk_of}
use Rattle.term_unfold.specs.Walks.{Walk}
use Rattle.heap_reach.specs.Rounds.{reached_by}
use Rattle.term_text.specs.Cells.{cells_report}
use Rattle.term_text.specs.Cuts.{cut_report}
use Rattle.term_text.specs.Reach.{reach_report}
use Rattle.term_text.specs.Roots.{answer_over, binary_report, ext_report, roots_report, some_roots_report, term_report}
use Rattle.root_views.specs.declared.kinds.RootKind.{RootKind}

-- what a walker goes over, and the body with the roots from which it goes
pub record Rooted : Type 0 where
  pub walk : Walk
  pub part : Part

-- a heap, and the terms among the roots that refer to it
pub record Entered : Type 0 where
  pub heap : HeapMap
  pub terms : List Element

-- the body with the roots of one kind of a process, if there is one
abbrev pub root_body : RootKind → List ℕ → List Section → List Section
root_body kind pid sections = option_to_list (root_section kind pid sections)

-- what a walker goes over in the dump with these bytes, and the body with the roots of one kind of a process
abbrev pub rooted_in : RootKind → List ℕ → List ℕ → Rooted
rooted_in kind pid bytes = record { walk = walk_of pid bytes; part = part_in (root_section kind pid) bytes }

-- the roots of the process with this pid, each within this many nodes, with bad addresses marked or not
abbrev pub roots_row : RootKind → List ℕ → ℕ → Bool → Meaning
roots_row kind pid nodes marked = on_heap (record (walk_question pid) {
  also = root_body kind pid;
  What = Rooted;
  what = rooted_in kind pid;
  show = λ r. roots_report (answer_over r.walk nodes marked) r.part.base (roots_in kind r.part.bytes);
})

-- the term at an address, within this many nodes, with bad addresses marked or not
abbrev pub term_question : List ℕ → ℕ → ℕ → Bool → HeapQuestion
term_question pid addr nodes marked = record (walk_question pid) {
  refuses = no_address addr;
  show = λ walk. term_report (answer_over walk nodes marked) addr;
}

-- the term at this address, in the heap of the process with this pid
abbrev pub term_row : List ℕ → ℕ → ℕ → Bool → Meaning
term_row pid addr nodes marked = on_heap (term_question pid addr nodes marked)

-- a question that shows terms of a heap of any size: its report ends with what a truncated
-- dump may lack of the roots of these kinds, of the heap and of the literals
abbrev pub part_with_cuts : List RootKind → HeapQuestion → Meaning
part_with_cuts kinds q = of_part (record q {
  What = List ℕ;
  what = λ bytes. q.show (q.what bytes) ++ cut_report (index_of bytes) q.pid kinds;
  show = λ text. text;
})

-- the term at this address, whatever the size of the heap
abbrev pub peek_term_row : List ℕ → ℕ → ℕ → Bool → Meaning
peek_term_row pid addr nodes marked = part_with_cuts [] (term_question pid addr nodes marked)

-- of the roots of this process those from this place on, at most this many, whatever the sizes of the bodies
abbrev pub peek_roots_row : RootKind → List ℕ → ℕ → ℕ → ℕ → Bool → Meaning
peek_roots_row kind pid first count nodes marked = part_with_cuts (kind ∷ []) (record (walk_question pid) {
  also = root_body kind pid;
  What = Rooted;
  what = rooted_in kind pid;
  show = λ r. some_roots_report (answer_over r.walk nodes marked) r.part.base first count (roots_in kind r.part.bytes);
})

-- the external term at this address, in the heap of the process with this pid
abbrev pub ext_row : List ℕ → ℕ → Meaning
ext_row pid addr = on_heap (record (heap_question pid) {
  refuses = no_external addr;
  What = List ℕ;
  what = λ bytes. unwrap_or (external_at addr (heap_map pid bytes)) [];
  show = ext_report;
})

-- what the roots of the process with this pid reach
abbrev pub reach_row : List ℕ → Meaning
reach_row pid = on_heap (record (heap_question pid) {
  also = root_bodies pid;
  What = Entered;
  what = λ bytes. record { heap = heap_map pid bytes; terms = root_terms pid bytes };
  show = λ e. reach_report e.heap (reached_by e.heap.cells e.terms);
})

-- what is on the heap of the process with this pid
abbrev pub cells_row : List ℕ → Meaning
cells_row pid = on_heap (record (heap_question pid) { show = cells_report })

-- the binary with this address
abbrev pub binary_row : ℕ → Meaning
binary_row addr =
    record (of_bodies (λ ss. option_to_list (binary_section addr ss)) (binary_bytes addr) (binary_report addr)) {
      refused_unread = λ ss. binary_cause addr (binary_section addr ss);
      refused_read = λ limits bytes. bad_binary addr bytes;
    }
