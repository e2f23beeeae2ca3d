use Rattle.std.proofs.Common.{◌-◌}
use Rattle.cell_records.specs.Inner.Places.{IsRange}
use Rattle.cell_records.proofs.search.first_between.Given as goal

-- the place is between these two
abbrev pub invariant-loop-low : goal.invariant-loop-low
invariant-loop-low l = IsRange l.ranks l.address (l.low, l.high)

abbrev pub decreases-loop-low : goal.decreases-loop-low
decreases-loop-low l = l.high - l.low
