-- What the definition of the reached cells implies for sets of cells. The modules here have laws
-- of the definitions, each with its proof, for the proofs of those who walk over cells.
use Rattle.std.specs.Prelude.{◌≡◌, ℕ, Bool, true, ◌⊎◌, ◌↔◌, List}
use Rattle.heap_cells.specs.Cells.{Cell}
use Rattle.cell_graphs.specs.Graphs.{Graph, Leads, LeadsWithin, graph_of}
use Rattle.cell_graphs.specs.Reached.{IsIn, IsClosed, Reached, AreReached}
use Rattle.cell_graphs.specs.Rounds.{reached_from}
pub mod Adding
pub mod Closing
pub mod HeapGraphs
pub mod Leading
pub mod Places
pub mod Spreading

-- the roots are reached, and with a reached cell each to which it leads
pub record IsClosedSet : Type 0 where
  pub roots : (graph : Graph) (begun : List Bool) (n : ℕ) → IsIn begun n → Reached graph (IsIn begun) n
  pub closed : (graph : Graph) (begun : List Bool) (m n : ℕ) → Reached graph (IsIn begun) m → Leads graph m n → Reached graph (IsIn begun) n

-- each closed set that contains the roots contains what they reach
abbrev pub IsLeast : Type 0
IsLeast = (graph : Graph) (begun set : List Bool) → ((n : ℕ) → IsIn begun n → IsIn set n) → IsClosed graph set
    → (n : ℕ) → Reached graph (IsIn begun) n → IsIn set n

-- roots after others reach what all of them reach together
abbrev pub IsSameAtOnce : Type 0
IsSameAtOnce = (graph : Graph) (begun set more : List Bool) → AreReached graph (IsIn begun) set
    → (n : ℕ) → Reached graph (λ k. IsIn set k ⊎ IsIn more k) n ↔ Reached graph (λ k. IsIn begun k ⊎ IsIn more k) n

-- the rounds find exactly the reached cells
abbrev pub AreFound : Type 0
AreFound = (graph : Graph) → LeadsWithin graph
    → (begun : ℕ → Bool) (n : ℕ) → (reached_from graph begun n ≡ true) ↔ Reached graph (λ k. begun k ≡ true) n

-- the cells of a heap lead to cells of the heap
abbrev pub AreWithinHeaps : Type 0
AreWithinHeaps = (cells : List Cell) → LeadsWithin (graph_of cells)
