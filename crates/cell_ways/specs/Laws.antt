-- What the depth of a cell is, and where the way to it leads.
use Rattle.std.specs.Prelude.{◌≡◌, ℕ, suc, ◌<◌, ◌≤◌, Bool, true, ◌↔◌, List, [], ◌∷◌, ◌++◌, length, None, Some}
use Rattle.cell_graphs.specs.Graphs.{Graph, Leads, LeadsWithin}
use Rattle.cell_graphs.specs.Reached.{Reached}
use Rattle.cell_ways.specs.Depths.{depth_of, way_to}

-- cells of which the first is a root, each leads to the next, and the last is this one
pub data IsWay (graph : Graph) (Root : ℕ → Type 0) : List ℕ → ℕ → Type 0 where
  root : (n : ℕ) → Root n → IsWay graph Root (n ∷ []) n
  step : (way : List ℕ) (m n : ℕ) → IsWay graph Root way m → Leads graph m n → IsWay graph Root (way ++ n ∷ []) n

-- the least number of steps in which roots lead to a cell: some way has as many, and none has fewer
pub record IsDepth (graph : Graph) (Root : ℕ → Type 0) (depth n : ℕ) : Type 0 where
  pub way : List ℕ
  pub is : IsWay graph Root way n
  pub steps : length way ≡ suc depth
  pub least : (other : List ℕ) → IsWay graph Root other n → depth < length other

-- a cell has a depth if that is the least number of steps, and none if it isn't reached
pub record DepthIsLeast : Type 0 where
  pub some : (graph : Graph) → LeadsWithin graph
      → (begun : ℕ → Bool) (depth n : ℕ) → (depth_of graph begun n ≡ Some depth) ↔ IsDepth graph (λ m. begun m ≡ true) depth n
  pub none : (graph : Graph) → LeadsWithin graph
      → (begun : ℕ → Bool) (n : ℕ) → (depth_of graph begun n ≡ None) ↔ (Reached graph (λ m. begun m ≡ true) n → ⊥)

-- of the cells of this depth that lead to a cell the one with the least number
pub record IsLeastBefore (graph : Graph) (begun : ℕ → Bool) (depth m n : ℕ) : Type 0 where
  pub at : depth_of graph begun m ≡ Some depth
  pub leads : Leads graph m n
  pub least : (other : ℕ) → depth_of graph begun other ≡ Some depth → Leads graph other n → m ≤ other

-- the way to a cell of depth 0 is that cell; to a deeper one it comes from the cell with
-- the least number among those of one depth less that lead to it. So it is a way
pub record AWayLeads : Type 0 where
  pub first : (graph : Graph) (begun : ℕ → Bool) (n : ℕ) → depth_of graph begun n ≡ Some 0 → way_to graph begun n ≡ n ∷ []
  pub later : (graph : Graph) (begun : ℕ → Bool) (depth n : ℕ) → depth_of graph begun n ≡ Some (suc depth)
      → (m : ℕ) × IsLeastBefore graph begun depth m n × (way_to graph begun n ≡ way_to graph begun m ++ n ∷ [])
  pub leads : (graph : Graph) (begun : ℕ → Bool) (depth n : ℕ) → depth_of graph begun n ≡ Some depth
      → IsWay graph (λ m. begun m ≡ true) (way_to graph begun n) n × (length (way_to graph begun n) ≡ suc depth)
