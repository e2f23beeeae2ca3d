-- The cells of a heap, and behind them one for each kind of roots.
use Rattle.std.specs.Prelude.{ℕ, ◌==◌, if◌then◌else◌, Bool, List, length, take}
use Rattle.cell_graphs.specs.Graphs.{Graph}
use Rattle.cell_parts.specs.Parts.{CellPart}
use Rattle.heap_graph.specs.Binaries.{binaries_among}
use Rattle.heap_skeleton.specs.Skeletons.{SkeletonMap}
use Rattle.heap_levels.specs.Levels.{with_kinds}

-- a heap, and the parts of each kind
pub record KindMap : Type 0 where
  pub heap : SkeletonMap
  pub stack : List CellPart
  pub dict : List CellPart
  pub mail : List CellPart

-- what leads where
abbrev pub kind_graph : KindMap → Graph
kind_graph m = with_kinds m.heap.leads m.stack m.dict m.mail

-- the words of the cells of the heap; the others have none
abbrev pub kind_words : KindMap → List ℕ
kind_words m = take (length m.heap.leads) m.heap.words

-- which cells of the heap refer to binaries
abbrev pub kind_binaries : KindMap → List Bool
kind_binaries m = take (length m.heap.leads) (binaries_among m.heap.kinds)

-- the parts of the kind with a number
abbrev pub parts_of : KindMap → ℕ → List CellPart
parts_of m k = if k == 0 then m.stack else (if k == 1 then m.dict else m.mail)
