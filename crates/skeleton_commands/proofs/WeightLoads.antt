-- What `weigh` of a cell has read: the skeleton of a heap of any size, and in it the cell.
use Rattle.std.proofs.Common.{◌==◌, ◌*◌, ◌∙◌, ◌≡◌, ◌≤◌, [], ap, arith, sym, Err, List, None, Ok, Option, Result, Some, ℕ}
use Rattle.std.specs.Prelude.{is_some, IfOk}
use Rattle.std.specs.Option.{option_map_or, option_or}
use Rattle.dump_io.specs.Laws.Options.{is_some-map}
use Rattle.dump_io.specs.Dumps.{told as dumps_told, DeviceState, ReadsAtMost}
use Rattle.dump_io.specs.Laws.Lists.{position-map}
use Rattle.dump_io.specs.Limits.{Numbers}
use Rattle.dump_sections.specs.Index.{index_of, sections_in, Contents}
use Rattle.dump_sections.specs.Loading.{bodies_length}
use Rattle.dump_sections.specs.Sections.{sections}
use Rattle.heap_cells.specs.Cells.{Cell}
use Rattle.heap_cells.specs.DumpHeaps.{heap_map}
use Rattle.heap_cells.specs.Loading.{heap_bodies}
use Rattle.heap_skeleton.specs.Skeletons.{skeleton_for}
use Rattle.tuple_fronts.specs.Fronts.{cells_for}
use Rattle.part_weights.specs.Weights.{address_weighing, cell_weighing, Weighing}
use Rattle.skeleton_commands.specs.Weights.{weights_report}
use Rattle.dump_questions.specs.Meaning.{no_process}
use Rattle.dump_questions.specs.Heaps.{address_cause, heap_question, no_address}
use Rattle.dump_questions.specs.Tasks.{refusal_listed}
use Rattle.dump_questions.specs.Reading.{IsIndexed, ReadsFor, Takes}
use Rattle.dump_questions.specs.Stops.{Judges}
use Rattle.dump_questions.specs.declared.stop.Stop.{Stop}
use Rattle.dump_questions.specs.Laws.Reading.{HasRead-listed, IsHalted-held}
use Rattle.skeleton_commands.specs.Rows.{weigh_cell_row}
use Rattle.skeleton_commands.proofs.CutLoads.{seen-indexed, Takes-cuts}

-- the heap of the dump has a cell at the address exactly if its parts were weighed
found-told : (pid bytes : List ℕ) (index : Contents) (most addr : ℕ) → index ≡ index_of bytes
    → no_address addr (heap_map pid bytes) ≡ address_cause addr (is_some (address_weighing bytes index pid most addr))
found-told pid bytes index most addr is =
    let weighed = is_some-map (cell_weighing (skeleton_for bytes (index_of bytes) pid) (cells_for bytes (index_of bytes) pid) most) _ in
    let placed = position-map (λ a. a == addr) (λ (c : Cell). c.address) (heap_map pid bytes).cells in
    rw (is) (ap (address_cause addr) (sym (weighed ∙ ap is_some placed)))

-- the parts of the cell at an address were weighed, or it is refused, since there is none
module _ (pid : List ℕ) (most addr : ℕ) (limits : Numbers) (index : Contents) (old new : DeviceState) (there : no_process pid (sections_in index) ≡ None)
    (count : ℕ) (reads : ReadsAtMost old new count) (few : count ≤ 3 * bodies_length (heap_bodies pid (sections_in index))) (found : Option Weighing)
    (told : (bytes : List ℕ) → old.now ≡ dumps_told bytes → found ≡ address_weighing bytes index pid most addr) where
  takes : Takes (weigh_cell_row pid most addr) limits index old new
  takes =
      Takes-cuts [] (record (heap_question pid) {
        refuses = no_address addr;
        What = Option Weighing;
        what = λ bytes. address_weighing bytes (index_of bytes) pid most addr;
        show = λ found. option_map_or (weights_report most) found [];
        more = λ limits bytes. 2 * bodies_length (heap_bodies pid (sections bytes));
      }) limits index old new there count reads (λ bytes all. omega (arith, few, ap (λ i. bodies_length (heap_bodies pid (sections_in i))) all.is))

  listed : refusal_listed (weigh_cell_row pid most addr) (sections_in index) limits ≡ None
  listed = ap (λ o. option_or o None) there

  refused : (bytes : List ℕ) → IsIndexed bytes limits index old.now → no_address addr (heap_map pid bytes) ≡ address_cause addr (is_some found)
  refused bytes all = found-told pid bytes index most addr all.is ∙ ap (λ o. address_cause addr (is_some o)) (sym (told bytes all.opened))

  pub ReadsFor-cell : (result : Result Weighing Stop) → Judges (address_cause addr (is_some found)) result → IfOk result (λ w. found ≡ Some w)
      → ReadsFor (weigh_cell_row pid most addr) limits index old new (λ w. record { index = index; seen = Some w }) result
  ReadsFor-cell (Ok w) judged is =
      HasRead-listed (weigh_cell_row pid most addr) limits index old new (record { index = index; seen = Some w }) takes listed
      (λ bytes all. (refused bytes all ∙ judged, seen-indexed all.is (sym is ∙ told bytes all.opened ∙ ap (λ i. address_weighing bytes i pid most addr) all.is)))
  ReadsFor-cell (Err stop) judged is =
      IsHalted-held (weigh_cell_row pid most addr) limits index old new Weighing (address_cause addr (is_some found)) stop takes listed refused judged
