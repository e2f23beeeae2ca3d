-- A walk: marked cells, and those of them that wait to be visited.
use Rattle.std.specs.Prelude.{◌≡◌, ℕ, ◌+◌, ◌<◌, ◌≤◌, ◌⊎◌, Bool, true, false, nat_eq, List, [], length, Some, slice_get}
use Rattle.std.specs.List.{list_any, sum_by, IsDistinct}
use Rattle.cell_graphs.specs.Graphs.{Graph, Leads, places_at}
use Rattle.cell_graphs.specs.Reached.{IsIn, IsClosed}

-- the marks of the cells, and the numbers of those that wait
pub record Frontier : Type 0 where
  pub marks : List Bool
  -- for how many entries memory has been taken
  pub reserved : ℕ
  -- the cells that wait, the one that came last first
  pub waiting : List ℕ

-- whether a cell is among some cells
abbrev pub is_on : ℕ → List ℕ → Bool
is_on cell cells = list_any (nat_eq cell) cells

-- the cell waits
abbrev pub Waits : Frontier → ℕ → Type 0
Waits f n = is_on n f.waiting ≡ true

-- the cells that wait are marked, each waits once, and there is room for exactly as many as there are marks
pub record IsTied (marks : List Bool) (capacity : ℕ) (waiting : List ℕ) : Type 0 where
  pub room : capacity ≡ length marks
  pub distinct : IsDistinct nat_eq waiting
  pub marked : (n : ℕ) → is_on n waiting ≡ true → IsIn marks n
  pub bound : length waiting ≤ length marks

-- 1 for a mark that isn't set
abbrev pub unmarked : Bool → ℕ
unmarked true = 0
unmarked false = 1

-- what is still to be done: the cells that aren't marked, and those that wait
abbrev pub work : Frontier → ℕ
work f = sum_by unmarked f.marks + length f.waiting

-- the cells of a set are marked, and those that weren't before now wait
pub record Adds (old new : Frontier) (P : ℕ → Type 0) : Type 0 where
  pub cells : length new.marks ≡ length old.marks
  pub room : new.reserved ≡ old.reserved
  pub had : (n : ℕ) → IsIn old.marks n → IsIn new.marks n
  pub gets : (n : ℕ) → P n → IsIn new.marks n
  pub only : (n : ℕ) → IsIn new.marks n → IsIn old.marks n ⊎ P n
  pub kept : (n : ℕ) → Waits old n → Waits new n
  pub waits : (n : ℕ) → IsIn new.marks n → IsIn old.marks n ⊎ Waits new n
  pub work : work new ≡ work old

-- one of the first so many places of a cell leads to the other
abbrev pub LeadsBy : Graph → ℕ → ℕ → ℕ → Type 0
LeadsBy graph m count n = (k : ℕ) × (k < count) × (slice_get (places_at graph m) k ≡ Some (Some n))

-- all that was visited leads only to marked cells
abbrev pub IsLooked : Graph → Frontier → Type 0
IsLooked graph f = (m n : ℕ) → IsIn f.marks m → Leads graph m n → Waits f m ⊎ IsIn f.marks n

-- no cell waits, the set is closed, and there is room for exactly as many entries as there are cells
pub record IsSettled (graph : Graph) (f : Frontier) : Type 0 where
  pub size : length f.marks ≡ length graph
  pub room : f.reserved ≡ length graph
  pub empty : f.waiting ≡ []
  pub closed : IsClosed graph f.marks
