use Rattle.std.proofs.Common.{◌≡◌}
use Rattle.cell_records.proofs.ResolvingFacts.{AreResolvingIn}
use Rattle.cell_records.proofs.resolving.resolve_each.Given as goal

-- the references so far are settled
abbrev pub invariant-loop-k : goal.invariant-loop-k
invariant-loop-k l = (l.search ≡ l.ranks) × AreResolvingIn l.ranks l.initial.slots l.slots l.references l.k
