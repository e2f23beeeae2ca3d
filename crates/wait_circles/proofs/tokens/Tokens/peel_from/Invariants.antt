use Rattle.std.proofs.Common.{◌≡◌, ◌+◌, ◌<◌, length}
use Rattle.wait_circles.specs.Inner.Peeling.{ArePeeling, IsPeeledUpto, leads_left}
use Rattle.wait_circles.proofs.tokens.Tokens.peel_from.Given as goal

-- all that can be peeled off is, but for the number at hand
abbrev pub invariant-loop-self : goal.invariant-loop-self
invariant-loop-self l = record {
  leads : l.self.leads.items ≡ l.fn.self.leads.items;
  peeling : ArePeeling l.self;
  within : l.v < length l.fn.self.leads.items;
  upto : IsPeeledUpto l.self.left.items (l.from + 1) l.v;
}

abbrev pub decreases-loop-self : goal.decreases-loop-self
decreases-loop-self l = leads_left l.self
