-- What the roots of a heap reach. The set of the reached cells is one mark for each cell.
use Rattle.std.specs.Prelude.{◌≡◌, ℕ, Bool, ◌⊎◌, List}
use Rattle.term_forms.specs.Elements.{Element}
use Rattle.heap_cells.specs.Cells.{Cell}
use Rattle.heap_cells.specs.HeapMap.{HeapMap}
use Rattle.heap_cells.specs.Targets.{At, target}
pub use Rattle.cell_graphs.specs.Reached.{is_in, IsIn}

-- the cells of a set, and the one to which an element refers
abbrev pub Begun : List Cell → List Bool → Element → ℕ → Type 0
Begun cells marks e n = IsIn marks n ⊎ (target cells e ≡ At n)

-- a heap, which of its cells are reached, and for how many cells still to be visited memory has been taken
pub record Reaching : Type 0 where
  pub heap : HeapMap
  pub marks : List Bool
  pub reserved : ℕ
