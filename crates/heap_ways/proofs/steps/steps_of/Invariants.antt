use Rattle.std.proofs.Common.{◌≡◌, ◌-◌, length}
use Rattle.std.specs.Prelude.{reverse}
use Rattle.heap_ways.specs.Inner.Steps.{steps_at}
use Rattle.heap_ways.proofs.steps.steps_of.Given as goal

-- the steps of the last cells are kept
abbrev pub invariant-loop-behind : goal.invariant-loop-behind
invariant-loop-behind l = reverse l.steps.items ≡ steps_at l.skeleton.kinds l.skeleton.leads l.way (length l.way - l.behind)
