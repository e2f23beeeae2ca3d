-- The cells that others reach: the least set that contains these and,
-- for each of its cells, those to which that cell leads.
use Rattle.std.specs.Prelude.{◌≡◌, ℕ, Bool, true, false, ◌↔◌, List, slice_index_or}
use Rattle.cell_graphs.specs.Graphs.{Graph, Leads}

-- what roots reach: the roots themselves, and each cell to which a reached one leads
pub data Reached (graph : Graph) (Root : ℕ → Type 0) : ℕ → Type 0 where
  root : (n : ℕ) → Root n → Reached graph Root n
  step : (m n : ℕ) → Reached graph Root m → Leads graph m n → Reached graph Root n

-- whether a cell is in a set, which is one mark for each cell
abbrev pub is_in : List Bool → ℕ → Bool
is_in marks n = slice_index_or marks n false

-- the cell is in the set
abbrev pub IsIn : List Bool → ℕ → Type 0
IsIn marks n = is_in marks n ≡ true

-- the set is that of the cells that these roots reach
abbrev pub AreReached : Graph → (ℕ → Type 0) → List Bool → Type 0
AreReached graph Root marks = (n : ℕ) → IsIn marks n ↔ Reached graph Root n

-- a set that has, for each of its cells, those to which that cell leads
abbrev pub IsClosed : Graph → List Bool → Type 0
IsClosed graph marks = (m n : ℕ) → IsIn marks m → Leads graph m n → IsIn marks n
