-- How deep a cell lies below those with which a walk begins, and by which way the walk comes to it.
use Rattle.std.specs.Prelude.{ℕ, zero, suc, ◌==◌, Bool, false, ◌&&◌, List, [], ◌∷◌, ◌++◌, length, Option, None, Some, if◌then◌else◌}
use Rattle.std.specs.Option.{option_map_or, option_or}
use Rattle.cell_graphs.specs.Graphs.{Graph}
use Rattle.cell_graphs.specs.Rounds.{after_rounds, leads_to}

-- the least of the first n numbers that passes a test, if one does
abbrev pub least_below : (ℕ → Bool) → ℕ → Option ℕ
least_below test zero = None
least_below test (suc n) = option_or (least_below test n) (if test n then Some n else None)

-- the depth of a cell: the least number of rounds that find it. As many rounds as there are cells find each that is reached
abbrev pub depth_of : Graph → (ℕ → Bool) → ℕ → Option ℕ
depth_of graph begun n = least_below (λ rounds. after_rounds rounds graph begun n) (suc (length graph))

-- whether the second of two depths is one more than the first
abbrev pub is_next : Option ℕ → Option ℕ → Bool
is_next (Some depth) (Some deeper) = deeper == suc depth
is_next depth deeper = false

-- from which cell the way comes to another: of those of one depth less that lead to it, the one with the least number
abbrev pub came_from : Graph → (ℕ → Bool) → ℕ → Option ℕ
came_from graph begun n =
    least_below (λ m. is_next (depth_of graph begun m) (depth_of graph begun n) && leads_to graph m n) (length graph)

-- a way of so many steps to a cell, if this says from which cell it comes to each
abbrev pub way_by : (ℕ → Option ℕ) → ℕ → ℕ → List ℕ
way_by before zero n = n ∷ []
way_by before (suc steps) n = option_map_or (way_by before steps) (before n) [] ++ n ∷ []

-- the way to a cell; one that has no depth has none
abbrev pub way_to : Graph → (ℕ → Bool) → ℕ → List ℕ
way_to graph begun n = option_map_or (λ depth. way_by (came_from graph begun) depth n) (depth_of graph begun n) []
