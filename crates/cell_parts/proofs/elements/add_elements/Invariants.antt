use Rattle.std.proofs.Common.{◌+◌, length}
use Rattle.cell_parts.specs.Inner.Walking.{places_left, waiting}
use Rattle.cell_parts.proofs.Passing.{Goes}
use Rattle.cell_parts.proofs.elements.add_elements.Given as goal

abbrev pub invariant-loop-at : goal.invariant-loop-at
invariant-loop-at l = Goes l.skeleton.kinds l.skeleton.leads l.cell l.fn.parts l.parts l.walk

-- the places of the cells that weren't passed, and those that wait
abbrev pub decreases-loop-at : goal.decreases-loop-at
decreases-loop-at l =
    places_left l.walk.passed.items l.skeleton.leads
    + length (waiting l.skeleton.kinds l.skeleton.leads l.walk.frames.items)
