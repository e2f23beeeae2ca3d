-- What the elements of a heap's roots reach, as a value: a set of cells is a test of their numbers.
use Rattle.std.specs.Prelude.{◌≡◌, ℕ, ◌==◌, Bool, false, List, ◌++◌}
use Rattle.std.specs.List.{list_any}
use Rattle.term_forms.specs.Elements.{Element}
use Rattle.heap_cells.specs.Cells.{Cell}
use Rattle.heap_cells.specs.Targets.{Target, At, target}
use Rattle.cell_graphs.specs.Graphs.{graph_of}
use Rattle.cell_graphs.specs.Reached.{is_in}
use Rattle.cell_graphs.specs.Rounds.{reached_from}
use Rattle.heap_reach.specs.Reached.{Reaching}

-- whether the target is the cell
abbrev pub is_at : ℕ → Target → Bool
is_at n (At m) = m == n
is_at n place = false

-- whether one of the elements refers to the cell
abbrev pub is_referred : List Cell → List Element → ℕ → Bool
is_referred cells roots n = list_any (λ e. is_at n (target cells e)) roots

-- the cells that the elements reach
abbrev pub reached_by : List Cell → List Element → ℕ → Bool
reached_by cells roots n = reached_from (graph_of cells) (is_referred cells roots) n

-- exactly the cells that these elements reach are marked
abbrev pub IsReachOf : Reaching → List Element → Type 0
IsReachOf reach roots = (n : ℕ) → is_in reach.marks n ≡ reached_by reach.heap.cells roots n

-- what these further elements reach was added to what some elements reach
abbrev pub AddsRoots : Reaching → Reaching → List Element → Type 0
AddsRoots before after more = (roots : List Element) → IsReachOf before roots → IsReachOf after (roots ++ more)
