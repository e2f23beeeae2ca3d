-- Where the last places of cells lead, each by a number.
use Rattle.std.specs.Prelude.{◌≡◌, ℕ, ◌+◌, ◌<◌, List, length, Some, slice_get, slice_index_or}
use Rattle.cell_graphs.specs.Graphs.{Graph, places_at}
use Rattle.heap_graph.specs.Leads.{cell_for}

-- a number stands for where the last place of a cell leads, if the cell has places
pub record TellsLast (graph : Graph) (cell mark : ℕ) : Type 0 where
  pub last : (place : ℕ) → length (places_at graph cell) ≡ place + 1 → slice_get (places_at graph cell) place ≡ Some (cell_for mark)

-- such numbers of the first n cells
pub record TellsFirst (graph : Graph) (n : ℕ) (marks : List ℕ) : Type 0 where
  pub count : length marks ≡ n
  pub each : (cell : ℕ) → cell < n → TellsLast graph cell (slice_index_or marks cell 0)

-- such numbers of all cells
abbrev pub TellsLasts : Graph → List ℕ → Type 0
TellsLasts graph marks = TellsFirst graph (length graph) marks
