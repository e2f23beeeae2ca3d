-- The steps of a way from a place on.
use Rattle.std.specs.Prelude.{ℕ, zero, suc, List, drop, slice_index_or, Option, None}
use Rattle.cell_graphs.specs.Graphs.{Graph}
use Rattle.heap_skeleton.specs.Kinds.{cell_kind}
use Rattle.cell_records.specs.declared.cells.Kind.{Kind}
use Rattle.heap_ways.specs.Steps.{steps_from}
use Rattle.heap_ways.specs.declared.steps.Step.{Step}

-- the kind of the cell before a place of a way
abbrev pub kind_before : List (Option Kind) → List ℕ → ℕ → Option Kind
kind_before kinds way zero = None
kind_before kinds way (suc i) = cell_kind kinds (slice_index_or way i 0)

-- the steps of the cells from a place on
abbrev pub steps_at : List (Option Kind) → Graph → List ℕ → ℕ → List Step
steps_at kinds graph way i = steps_from kinds graph (kind_before kinds way i) (drop i way)
