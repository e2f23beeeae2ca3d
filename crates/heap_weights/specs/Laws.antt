-- What it means that parts hold a cell, and that their shares add up.
use Rattle.std.specs.Prelude.{◌≡◌, ℕ, ◌+◌, ◌<◌, ◌↔◌, Bool, List, Some, slice_get}
use Rattle.std.specs.List.{sum_by}
use Rattle.cell_graphs.specs.Graphs.{Graph, LeadsWithin}
use Rattle.cell_graphs.specs.Reached.{Reached}
use Rattle.heap_weights.specs.declared.holders.Holder.TheVariants.{Nobody, Several, Part}
use Rattle.heap_weights.specs.declared.shares.Shares.{Shares}
use Rattle.heap_weights.specs.Parts.{holder_of}
use Rattle.heap_weights.specs.Shares.{AreShares}

-- a part reaches the cell: the least set that contains the part's root
-- and, for each of its cells, those to which that leads, contains it
pub record Reaches (graph : Graph) (roots : List ℕ) (part n : ℕ) : Type 0 where
  pub cell : ℕ
  pub here : slice_get roots part ≡ Some cell
  pub reached : Reached graph (λ k. k ≡ cell) n

-- the part reaches the cell, and no other does
pub record ReachesAlone (graph : Graph) (roots : List ℕ) (part n : ℕ) : Type 0 where
  pub reaches : Reaches graph roots part n
  pub alone : (other : ℕ) → Reaches graph roots other n → other ≡ part

-- two parts reach the cell
pub record TwoReach (graph : Graph) (roots : List ℕ) (n : ℕ) : Type 0 where
  pub one : ℕ
  pub other : ℕ
  pub apart : one < other
  pub one_reaches : Reaches graph roots one n
  pub other_reaches : Reaches graph roots other n

-- who holds a cell, by which parts reach it
pub record PartsHold : Type 0 where
  pub alone : (graph : Graph) → LeadsWithin graph
      → (roots : List ℕ) (part n : ℕ) → (holder_of graph roots n ≡ Part part) ↔ ReachesAlone graph roots part n
  pub several : (graph : Graph) → LeadsWithin graph
      → (roots : List ℕ) (n : ℕ) → (holder_of graph roots n ≡ Several) ↔ TwoReach graph roots n
  pub nobody : (graph : Graph) → LeadsWithin graph
      → (roots : List ℕ) (n : ℕ) → (holder_of graph roots n ≡ Nobody) ↔ ((part : ℕ) → Reaches graph roots part n → ⊥)

-- each cell that a part reaches is counted once, for a part or as shared
abbrev pub SharesAddUp : Type 0
SharesAddUp = (graph : Graph) → LeadsWithin graph
    → (words : List ℕ) (binaries : List Bool) (own : ℕ) (roots : List ℕ) (shares : Shares) → AreShares graph words binaries own roots shares
    → sum_by (λ weight. weight.cells) shares.alone.items + shares.shared.cells ≡ shares.reached.cells
