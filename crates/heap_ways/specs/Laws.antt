-- Nothing of a way is lost in its steps: written out, they are its cells.
use Rattle.std.specs.Prelude.{◌≡◌, ℕ, zero, suc, List, [], ◌∷◌, slice_index_or, Option, None}
use Rattle.std.specs.List.{flat_map}
use Rattle.std.specs.Option.{option_map_or}
use Rattle.cell_graphs.specs.Graphs.{Graph, places_at}
use Rattle.cell_records.specs.declared.cells.Kind.{Kind}
use Rattle.heap_ways.specs.Steps.{steps_of}
use Rattle.heap_ways.specs.declared.steps.Step.{Step}
use Rattle.heap_ways.specs.declared.steps.Step.TheVariants.{Tails, Cell}

-- the cell to which the tail of a list leads: its place 1
abbrev pub tail_of : Graph → ℕ → Option ℕ
tail_of graph n = slice_index_or (places_at graph n) 1 None

-- so many lists from this one on, each but the first at the tail of the one before it
abbrev pub tails_from : Graph → ℕ → ℕ → List ℕ
tails_from graph zero n = []
tails_from graph (suc count) n = n ∷ option_map_or (tails_from graph count) (tail_of graph n) []

-- the cells of a step
abbrev pub written_out : Graph → Step → List ℕ
written_out graph (Tails n count) = tails_from graph count n
written_out graph (Cell n place) = n ∷ []

-- the steps of a way, written out, are the way
abbrev pub StepsAreTheWay : Type 0
StepsAreTheWay = (kinds : List (Option Kind)) (graph : Graph) (way : List ℕ) → flat_map (written_out graph) (steps_of kinds graph way) ≡ way
