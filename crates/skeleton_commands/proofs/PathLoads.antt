-- What `path` has read: the way to a cell of a heap of any size.
use Rattle.std.proofs.Common.{◌+◌, ◌==◌, ◌∙◌, ◌≡◌, ◌≤◌, [], ap, arith, sym, Err, List, None, Ok, Option, Result, Some, ℕ}
use Rattle.std.specs.Prelude.{is_some, IfOk}
use Rattle.std.specs.Option.{option_map_or, option_or}
use Rattle.dump_io.specs.Laws.Options.{is_some-map}
use Rattle.dump_io.specs.Dumps.{told as dumps_told, DeviceState, ReadsAtMost}
use Rattle.dump_io.specs.Laws.Lists.{position-map}
use Rattle.dump_io.specs.Limits.{Numbers}
use Rattle.dump_sections.specs.Index.{index_of, sections_in, Contents}
use Rattle.dump_sections.specs.Loading.{bodies_length}
use Rattle.dump_sections.specs.Sections.{sections}
use Rattle.heap_cells.specs.Cells.{Cell}
use Rattle.heap_cells.specs.DumpHeaps.{heap_map}
use Rattle.heap_cells.specs.Loading.{heap_bodies}
use Rattle.heap_skeleton.specs.Skeletons.{skeleton_for}
use Rattle.heap_ways.specs.Ways.{heap_way, root_way, Way}
use Rattle.root_views.specs.Sections.{root_bodies}
use Rattle.skeleton_commands.specs.Paths.{path_report}
use Rattle.dump_questions.specs.Meaning.{no_process}
use Rattle.dump_questions.specs.Heaps.{address_cause, heap_question, no_address}
use Rattle.dump_questions.specs.Tasks.{refusal_listed}
use Rattle.dump_questions.specs.Reading.{IsIndexed, ReadsFor, Takes}
use Rattle.dump_questions.specs.Stops.{Judges}
use Rattle.dump_questions.specs.declared.stop.Stop.{Stop}
use Rattle.dump_questions.specs.Laws.Reading.{HasRead-listed, IsHalted-held}
use Rattle.term_text.specs.Cuts.{all_roots}
use Rattle.skeleton_commands.specs.Rows.{path_row}
use Rattle.skeleton_commands.proofs.CutLoads.{seen-indexed, Takes-cuts}

-- the heap of the dump has a cell at the address exactly if the way to it was sought
found-told : (pid bytes : List ℕ) (index : Contents) (addr : ℕ) → index ≡ index_of bytes
    → no_address addr (heap_map pid bytes) ≡ address_cause addr (is_some (heap_way bytes index pid addr))
found-told pid bytes index addr is =
    let sought = is_some-map (root_way bytes (index_of bytes) pid (skeleton_for bytes (index_of bytes) pid)) _ in
    let placed = position-map (λ a. a == addr) (λ (c : Cell). c.address) (heap_map pid bytes).cells in
    rw (is) (ap (address_cause addr) (sym (sought ∙ ap is_some placed)))

-- the way to the cell at an address was sought, or it is refused, since there is none
module _ (pid : List ℕ) (addr : ℕ) (limits : Numbers) (index : Contents) (old new : DeviceState) (there : no_process pid (sections_in index) ≡ None)
    (count : ℕ) (reads : ReadsAtMost old new count)
    (few : count ≤ bodies_length (heap_bodies pid (sections_in index)) + (bodies_length (root_bodies pid (sections_in index)) + bodies_length (heap_bodies pid (sections_in index)))) where
  -- so many bytes are taken for the roots and, twice, for the heap
  pub path-takes : Takes (path_row pid addr) limits index old new
  path-takes =
      Takes-cuts all_roots (record (heap_question pid) {
        also = root_bodies pid;
        refuses = no_address addr;
        What = Option Way;
        what = λ bytes. heap_way bytes (index_of bytes) pid addr;
        show = λ found. option_map_or path_report found [];
        more = λ limits bytes. bodies_length (heap_bodies pid (sections bytes));
      }) limits index old new there count reads
      (λ bytes all. omega (arith, few, ap (λ i. bodies_length (heap_bodies pid (sections_in i))) all.is))

  module _ (found : Option Way) (told : (bytes : List ℕ) → old.now ≡ dumps_told bytes → found ≡ heap_way bytes index pid addr) where
    listed : refusal_listed (path_row pid addr) (sections_in index) limits ≡ None
    listed = ap (λ o. option_or o None) there

    refused : (bytes : List ℕ) → IsIndexed bytes limits index old.now → no_address addr (heap_map pid bytes) ≡ address_cause addr (is_some found)
    refused bytes all = found-told pid bytes index addr all.is ∙ ap (λ o. address_cause addr (is_some o)) (sym (told bytes all.opened))

    pub ReadsFor-path : (result : Result Way Stop) → Judges (address_cause addr (is_some found)) result → IfOk result (λ w. found ≡ Some w)
        → ReadsFor (path_row pid addr) limits index old new (λ w. record { index = index; seen = Some w }) result
    ReadsFor-path (Ok w) judged is =
        HasRead-listed (path_row pid addr) limits index old new (record { index = index; seen = Some w }) path-takes listed
        (λ bytes all. (refused bytes all ∙ judged, seen-indexed all.is (sym is ∙ told bytes all.opened ∙ ap (λ i. heap_way bytes i pid addr) all.is)))
    ReadsFor-path (Err stop) judged is =
        IsHalted-held (path_row pid addr) limits index old new Way (address_cause addr (is_some found)) stop path-takes listed refused judged
