-- Which parts hold each cell. A part is a cell, its root; parts are identified by their places in a list.
use Rattle.std.specs.Prelude.{ℕ, suc, ◌==◌, Bool, true, false, List, [], ◌∷◌, ◌++◌}
use Rattle.cell_graphs.specs.Graphs.{Graph}
use Rattle.cell_graphs.specs.Rounds.{reached_from}
use Rattle.heap_weights.specs.declared.holders.Holder.{Holder}
use Rattle.heap_weights.specs.Holders.{holder_among}

-- the cells that a cell reaches
abbrev pub reached_at : Graph → ℕ → ℕ → Bool
reached_at graph root n = reached_from graph (λ k. k == root) n

-- the number, if this is so
abbrev pub number_if : Bool → ℕ → List ℕ
number_if true part = part ∷ []
number_if false part = []

-- the numbers of the parts that reach the cell, given the number of the first part
abbrev pub reaching_from : ℕ → Graph → List ℕ → ℕ → List ℕ
reaching_from part graph [] n = []
reaching_from part graph (root ∷ roots) n = number_if (reached_at graph root n) part ++ reaching_from (suc part) graph roots n

-- the numbers of the parts that reach the cell
abbrev pub reaching : Graph → List ℕ → ℕ → List ℕ
reaching graph roots n = reaching_from 0 graph roots n

-- who holds the cell
abbrev pub holder_of : Graph → List ℕ → ℕ → Holder
holder_of graph roots n = holder_among (reaching graph roots n)
