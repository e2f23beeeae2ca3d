use Rattle.std.proofs.Common.{◌≡◌, ◌-◌, ◌++◌}
use Rattle.std.specs.Prelude.{reverse}
use Rattle.cell_ways.specs.Depths.{way_by}
use Rattle.cell_ways.specs.Ways.{at_cell}
use Rattle.cell_ways.proofs.ways.walk_back.Given as goal

-- the way to where the walk stands, and the cells behind that
abbrev pub invariant-loop-step : goal.invariant-loop-step
invariant-loop-step l = way_by (at_cell l.befores) l.fn.steps l.fn.cell ≡ way_by (at_cell l.befores) (l.fn.steps - l._step) l.here ++ reverse l.back.items
