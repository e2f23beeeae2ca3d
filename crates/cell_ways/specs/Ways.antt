-- What is kept of ways: for each cell a number, or none.
use Rattle.std.specs.Prelude.{◌≡◌, ℕ, ◌<◌, ◌-◌, ◌^◌, ◌==◌, Bool, List, length, slice_index_or, Option, None, Some, if◌then◌else◌}
use Rattle.cell_graphs.specs.Graphs.{Graph}
use Rattle.cell_ways.specs.Depths.{came_from, depth_of}

-- the number that stands for none
abbrev pub nowhere : ℕ
nowhere = 2 ^ 32 - 1

-- what a number stands for
abbrev pub known : ℕ → Option ℕ
known number = if number == nowhere then None else Some number

-- what the numbers say of a cell
abbrev pub at_cell : List ℕ → ℕ → Option ℕ
at_cell numbers n = known (slice_index_or numbers n nowhere)

-- for each cell its depth, and the cell from which the way comes to it
pub record WayMap : Type 0 where
  pub depths : List ℕ
  pub befores : List ℕ

-- these are the depths of a graph's cells, and the ways to them, if this says with which cells a walk begins
pub record AreWays (graph : Graph) (begun : ℕ → Bool) (ways : WayMap) : Type 0 where
  pub size : length ways.depths ≡ length graph
  pub depths : (n : ℕ) → n < length graph → at_cell ways.depths n ≡ depth_of graph begun n
  pub befores : (n : ℕ) → n < length graph → at_cell ways.befores n ≡ came_from graph begun n
