-- The reached cells as a value: a set of cells is a test of
-- their numbers, and what a set reaches is found in rounds.
use Rattle.std.specs.Prelude.{ℕ, zero, suc, ◌==◌, Bool, false, ◌&&◌, ◌||◌, Option, length}
use Rattle.std.specs.List.{list_any}
use Rattle.std.specs.Option.{option_map_or}
use Rattle.cell_graphs.specs.Graphs.{Graph, places_at}

-- whether a place leads to the cell
abbrev pub is_to : ℕ → Option ℕ → Bool
is_to n place = option_map_or (λ m. m == n) place false

-- whether a cell leads to another
abbrev pub leads_to : Graph → ℕ → ℕ → Bool
leads_to graph m n = list_any (is_to n) (places_at graph m)

-- whether one of the first n cells is in the set and leads to the cell
abbrev pub is_led : Graph → (ℕ → Bool) → ℕ → ℕ → Bool
is_led graph set zero n = false
is_led graph set (suc m) n = is_led graph set m n || (set m && leads_to graph m n)

-- the set after n rounds, each of which adds the cells to which a cell of the set leads
abbrev pub after_rounds : ℕ → Graph → (ℕ → Bool) → ℕ → Bool
after_rounds zero graph begun n = begun n
after_rounds (suc rounds) graph begun n =
    after_rounds rounds graph begun n || is_led graph (after_rounds rounds graph begun) (length graph) n

-- the cells that a set reaches: as many rounds as there are cells are enough
abbrev pub reached_from : Graph → (ℕ → Bool) → ℕ → Bool
reached_from graph begun n = after_rounds (length graph) graph begun n
