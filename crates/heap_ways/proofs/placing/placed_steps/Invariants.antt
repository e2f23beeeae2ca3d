use Rattle.std.proofs.Common.{◌≡◌, length, map, take}
use Rattle.heap_ways.specs.Inner.Kept.{placed, AreIn}
use Rattle.heap_ways.proofs.placing.placed_steps.Given as goal

-- the first steps have their numbers
abbrev pub invariant-loop-step : goal.invariant-loop-step
invariant-loop-step l = (l.found.items ≡ map (placed l.skeleton l.tuples) (take l.step-index l.steps)) × AreIn l.skeleton (length l.tuples) l.found.items
