use Rattle.std.proofs.Common.{◌-◌, ◌≤◌, length}
use Rattle.link_graph.proofs.Cuts.{IsCutTo}
use Rattle.link_graph.proofs.list_parts.first_gap.Given as goal

abbrev pub invariant-loop-space : goal.invariant-loop-space
invariant-loop-space l = (l.from ≤ length l.text) × IsCutTo l.text l.from

abbrev pub decreases-loop-space : goal.decreases-loop-space
decreases-loop-space l = length l.text - l.from
