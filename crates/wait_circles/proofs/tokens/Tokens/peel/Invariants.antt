use Rattle.std.proofs.Common.{◌≡◌}
use Rattle.wait_circles.specs.Inner.Peeling.{ArePeeling, IsPeeledUpto}
use Rattle.wait_circles.proofs.tokens.Tokens.peel.Given as goal

-- of the numbers so far, all are peeled off to which none leads
abbrev pub invariant-loop-v : goal.invariant-loop-v
invariant-loop-v l = record {
  leads : l.self.leads.items ≡ l.initial.self.leads.items;
  peeling : ArePeeling l.self;
  upto : IsPeeledUpto l.self.left.items l.v l.v;
}
