-- Sweeps over all cells, in which it gets known in how many steps roots lead to each.
use Rattle.std.specs.Prelude.{◌≡◌, ℕ, ◌+◌, ◌-◌, ◌<◌, ◌≤◌, ◌⊎◌, suc, Bool, true, false, List, length, Some, if◌then◌else◌}
use Rattle.cell_graphs.specs.Graphs.{Graph}
use Rattle.cell_graphs.specs.Rounds.{after_rounds, leads_to}
use Rattle.cell_ways.specs.Ways.{at_cell}
use Rattle.cell_ways.specs.declared.sweeps.Sweep.{Sweep}

-- a cell is known to be reached in at most so many steps
abbrev pub AtMost : List ℕ → ℕ → ℕ → Type 0
AtMost depths n most = (k : ℕ) × (at_cell depths n ≡ Some k) × (k ≤ most)

-- the cells of a set are reached in at most so many steps, and nothing else got known
pub record Lowers (old new : Sweep) (depth : ℕ) (set : ℕ → Bool) : Type 0 where
  pub size : length new.depths.items ≡ length old.depths.items
  pub from : (n k : ℕ) → at_cell new.depths.items n ≡ Some k → (at_cell old.depths.items n ≡ Some k) ⊎ ((set n ≡ true) × (k ≡ depth))
  pub had : (n k : ℕ) → at_cell old.depths.items n ≡ Some k → AtMost new.depths.items n k
  pub gets : (n : ℕ) → set n ≡ true → AtMost new.depths.items n depth
  pub same : new.changed ≡ false → (old.changed ≡ false) × (new.depths.items ≡ old.depths.items)

-- each number is one of steps in which roots lead to the cell, and roots have none
pub record AreSteps (graph : Graph) (begun : ℕ → Bool) (depths : List ℕ) : Type 0 where
  pub roots : (n : ℕ) → begun n ≡ true → at_cell depths n ≡ Some 0
  pub found : (n k : ℕ) → at_cell depths n ≡ Some k → after_rounds k graph begun n ≡ true

-- what a cell leads to is reached in at most one step more
abbrev pub IsSettledAt : Graph → List ℕ → ℕ → Type 0
IsSettledAt graph depths m = (n k : ℕ) → leads_to graph m n ≡ true → at_cell depths m ≡ Some k → AtMost depths n (suc k)

-- numbers stay ones of steps; if nothing changed, they stay, and what some cells lead to is settled
pub record Sweeps (graph : Graph) (Cells : ℕ → Type 0) (old new : Sweep) : Type 0 where
  pub size : length new.depths.items ≡ length old.depths.items
  pub steps : (begun : ℕ → Bool) → AreSteps graph begun old.depths.items → AreSteps graph begun new.depths.items
  pub same : new.changed ≡ false → (old.changed ≡ false) × (new.depths.items ≡ old.depths.items)
  pub settled : new.changed ≡ false → (m : ℕ) → Cells m → IsSettledAt graph new.depths.items m

-- numbers stay ones of steps; if nothing changed, what any cell leads to is settled
pub record GoesOver (graph : Graph) (old new : Sweep) : Type 0 where
  pub size : length new.depths.items ≡ length old.depths.items
  pub steps : (begun : ℕ → Bool) → AreSteps graph begun old.depths.items → AreSteps graph begun new.depths.items
  pub settled : new.changed ≡ false → (m : ℕ) → m < length graph → IsSettledAt graph new.depths.items m

-- the cell to which a sweep upwards or downwards comes after so many others
abbrev pub turned : Bool → ℕ → ℕ → ℕ
turned up count step = if up then step else count - 1 - step

-- the cells to which it came in its first steps
abbrev pub IsPassed : Bool → ℕ → ℕ → ℕ → Type 0
IsPassed true count step m = m < step
IsPassed false count step m = count ≤ m + step
