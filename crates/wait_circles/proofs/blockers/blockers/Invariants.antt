use Rattle.std.proofs.Common.{◌≡◌}
use Rattle.std.specs.Prelude.{filter_map}
use Rattle.wait_circles.specs.Steps.{upto}
use Rattle.wait_circles.specs.Inner.Blocking.{AreLeft, node_blocker}
use Rattle.wait_circles.proofs.blockers.blockers.Given as goal

-- that for which the processes so far wait
abbrev pub invariant-loop-process : goal.invariant-loop-process
invariant-loop-process l = record {
  left : AreLeft l.leads l.direct.items l.process;
  blockers : l.blockers.items ≡ filter_map (node_blocker l.leads) (upto l.process);
}
