use Rattle.std.proofs.Common.{◌-◌, ◌<◌, ◌≤◌, length}
use Rattle.cell_records.specs.Inner.Places.{AreBelow}
use Rattle.cell_records.proofs.search.range_from.Given as goal

-- the pairs before `low` have lower addresses
abbrev pub invariant-loop-step : goal.invariant-loop-step
invariant-loop-step l = (0 < l.step) × (l.low ≤ length l.ranks) × AreBelow l.ranks l.address l.low

abbrev pub decreases-loop-step : goal.decreases-loop-step
decreases-loop-step l = length l.ranks - l.low
