-- What each question of this crate means, in one row.
use Rattle.dump_questions.specs.Meaning.{Meaning}
use Rattle.dump_questions.specs.Heaps.{heap_question, no_address, of_any_size, HeapQuestion}
use Rattle.std.specs.Prelude.{◌++◌, ◌+◌, ◌∷◌, ◌*◌, [], Bool, List, Option, ℕ}
use Rattle.std.specs.Option.{option_map_or, option_to_list}
use Rattle.dump_sections.specs.Index.{index_of, Contents}
use Rattle.dump_sections.specs.Loading.{bodies_length}
use Rattle.dump_sections.specs.Sections.{sections}
use Rattle.root_views.specs.Sections.{root_bodies, root_section}
use Rattle.root_views.specs.declared.kinds.RootKind.{RootKind}
use Rattle.root_views.specs.declared.kinds.RootKind.TheVariants.{Mail}
use Rattle.heap_cells.specs.Loading.{heap_bodies}
use Rattle.message_shapes.specs.Messages.{mail_shapes, ShapeMap}
use Rattle.skeleton_commands.specs.Shapes.{shapes_report}
use Rattle.part_weights.specs.Weights.{address_weighing, root_weighing, Weighing}
use Rattle.skeleton_commands.specs.Weights.{weights_report}
use Rattle.heap_levels.specs.Levels.{HeavyLevels, heavy_levels, process_of}
use Rattle.skeleton_commands.specs.Heavy.{heavy_report}
use Rattle.heap_ways.specs.Ways.{heap_way, Way}
use Rattle.skeleton_commands.specs.Paths.{path_report}
use Rattle.term_text.specs.Cuts.{all_roots, cut_report}

-- what is seen of a heap, and the index of the dump
pub record Indexed (A : Type 0) : Type 0 where
  pub index : Contents
  pub seen : A

-- a question on roots of these kinds and on a heap, of any sizes: its report ends with what a truncated dump may lack of them
abbrev pub with_cuts : List RootKind → HeapQuestion → Meaning
with_cuts kinds q = of_any_size (record q {
  What = Indexed q.What;
  what = λ bytes. record { index = index_of bytes; seen = q.what bytes };
  show = λ s. q.show s.seen ++ cut_report s.index q.pid kinds;
})

-- what kinds of messages the process with this pid has in its mailbox, at most this many of them, with pids shown or not
abbrev pub shapes_row : List ℕ → ℕ → Bool → Meaning
shapes_row pid most pids = with_cuts (Mail ∷ []) (record (heap_question pid) {
  also = λ ss. option_to_list (root_section Mail pid ss);
  What = ShapeMap;
  what = λ bytes. mail_shapes pids bytes (index_of bytes) pid;
  show = shapes_report most;
  more = λ limits bytes. bodies_length (heap_bodies pid (sections bytes));
})

-- what each of the cells alone holds to which the roots of the process with this pid refer, at most this many of them
abbrev pub weigh_row : List ℕ → ℕ → Meaning
weigh_row pid most = with_cuts all_roots (record (heap_question pid) {
  also = root_bodies pid;
  What = Weighing;
  what = λ bytes. root_weighing bytes (index_of bytes) pid;
  show = weights_report most;
})

-- what each of the cells alone holds to which the elements of the cell at this address refer, at most this many of them,
-- with the keys under which they stand if that cell is a map
abbrev pub weigh_cell_row : List ℕ → ℕ → ℕ → Meaning
weigh_cell_row pid most addr = with_cuts [] (record (heap_question pid) {
  refuses = no_address addr;
  What = Option Weighing;
  what = λ bytes. address_weighing bytes (index_of bytes) pid most addr;
  show = λ found. option_map_or (weights_report most) found [];
  more = λ limits bytes. 2 * bodies_length (heap_bodies pid (sections bytes));
})

-- down from the roots of the process with this pid to where most of its memory hangs, with at most this many parts of each level
abbrev pub heavy_row : List ℕ → ℕ → Meaning
heavy_row pid most = with_cuts all_roots (record (heap_question pid) {
  also = root_bodies pid;
  What = HeavyLevels;
  what = λ bytes. heavy_levels most (process_of bytes (index_of bytes) pid);
  show = heavy_report;
  more = λ limits bytes. 2 * bodies_length (heap_bodies pid (sections bytes));
})

-- by which way the roots of the process with this pid reach the cell at this address
abbrev pub path_row : List ℕ → ℕ → Meaning
path_row pid addr = with_cuts all_roots (record (heap_question pid) {
  also = root_bodies pid;
  refuses = no_address addr;
  What = Option Way;
  what = λ bytes. heap_way bytes (index_of bytes) pid addr;
  show = λ found. option_map_or path_report found [];
  more = λ limits bytes. bodies_length (heap_bodies pid (sections bytes));
})
