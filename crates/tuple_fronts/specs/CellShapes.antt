-- The shapes of cells of the heap of a process.
use Rattle.std.specs.Prelude.{ℕ, Bool, List, map}
use Rattle.dump_sections.specs.Index.{Contents}
use Rattle.tuple_fronts.specs.Fronts.{cells_for}
use Rattle.tuple_fronts.specs.Shapes.{cell_shape_with, inner_shape}

-- the shapes that these cells of the heap of the process with this pid have inside messages
abbrev pub inner_shapes : List ℕ → Contents → List ℕ → List ℕ → List (List ℕ)
inner_shapes dump index pid numbers = map (inner_shape (cells_for dump index pid)) numbers

-- the shapes of messages that refer to these cells of the heap of the process with this pid, with pids shown or not
abbrev pub cell_shapes_with : Bool → List ℕ → Contents → List ℕ → List ℕ → List (List ℕ)
cell_shapes_with pids dump index pid numbers = map (cell_shape_with pids (cells_for dump index pid)) numbers
