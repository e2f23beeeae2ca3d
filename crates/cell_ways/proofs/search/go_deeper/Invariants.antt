use Rattle.std.proofs.Common.{◌-◌, ◌≤◌, drop, take}
use Rattle.cell_ways.specs.Inner.Search.{is_led_by, Finds}
use Rattle.cell_ways.proofs.search.go_deeper.Given as goal

-- the cells to which the first of these lead are found
abbrev pub invariant-loop-place : goal.invariant-loop-place
invariant-loop-place g l =
    (l.fn.from ≤ l.place)
    × Finds l.initial.search l.search l.fn.depth (is_led_by (g.G.CellGraph.graph l.graph) (take (l.place - l.fn.from) (drop l.fn.from l.initial.search.queue.items)))

abbrev pub decreases-loop-place : goal.decreases-loop-place
decreases-loop-place g l = l.upto - l.place
