-- The steps of a way: its cells one by one, and lists that follow on each other together. Cells are identified by their numbers.
use Rattle.std.specs.Prelude.{ℕ, suc, ◌==◌, Bool, true, false, not, ◌&&◌, List, [], ◌∷◌, position, Option, None, Some, if◌then◌else◌}
use Rattle.std.specs.Option.{option_map_or}
use Rattle.cell_graphs.specs.Graphs.{Graph, places_at}
use Rattle.cell_graphs.specs.Rounds.{is_to}
use Rattle.heap_skeleton.specs.Kinds.{cell_kind}
use Rattle.cell_records.specs.declared.cells.Kind.{Kind}
use Rattle.cell_records.specs.declared.cells.Kind.TheVariants as kind
use Rattle.heap_ways.specs.declared.steps.Step.{Step}
use Rattle.heap_ways.specs.declared.steps.Step.TheVariants.{Tails, Cell}

-- the first place of a cell that leads to another
abbrev pub place_to : Graph → ℕ → ℕ → Option ℕ
place_to graph m n = position (is_to n) (places_at graph m)

-- whether a cell of this kind is a list
abbrev pub is_list : Option Kind → Bool
is_list (Some kind.List) = true
is_list other = false

-- whether the lists to which a cell of this kind leads are pairs of a key and its value
abbrev pub has_pairs : Option Kind → Bool
has_pairs (Some kind.Hash) = true
has_pairs (Some kind.Node) = true
has_pairs other = false

-- whether a cell is one of lists that follow on each other: a list that the way leaves by its tail
-- for another list, and doesn't enter from the cell of whose pairs it is one. A cell with which the way begins is entered from none
abbrev pub follows : Option Kind → Option Kind → Option ℕ → Option Kind → Bool
follows before here place next = is_list here && (option_map_or (λ p. p == 1) place false && (is_list next && not (has_pairs before)))

-- one more list before steps that begin with lists that follow on it, if they do
abbrev pub with_tail : ℕ → List Step → List Step
with_tail cell (Tails next count ∷ steps) = Tails cell (suc count) ∷ steps
with_tail cell steps = Tails cell 1 ∷ steps

-- one more cell before these steps
abbrev pub with_cell : Bool → ℕ → Option ℕ → List Step → List Step
with_cell is_tail cell place steps = if is_tail then with_tail cell steps else Cell cell place ∷ steps

-- the steps of a way that comes from a cell of this kind
abbrev pub steps_from : List (Option Kind) → Graph → Option Kind → List ℕ → List Step
steps_from kinds graph before [] = []
steps_from kinds graph before (n ∷ []) = Cell n None ∷ []
steps_from kinds graph before (m ∷ n ∷ way) =
    let place = place_to graph m n in
    with_cell (follows before (cell_kind kinds m) place (cell_kind kinds n)) m place (steps_from kinds graph (cell_kind kinds m) (n ∷ way))

-- the steps of a whole way
abbrev pub steps_of : List (Option Kind) → Graph → List ℕ → List Step
steps_of kinds graph way = steps_from kinds graph None way
