use Rattle.std.proofs.Common.{◌≡◌}
use Rattle.wait_circles.specs.Inner.Peeling.{leads_left}
use Rattle.wait_circles.specs.Inner.Telling.{IsWalking}
use Rattle.wait_circles.proofs.tokens.Tokens.walk_circle.Given as goal

-- the first numbers of the circle were taken
abbrev pub invariant-loop-next : goal.invariant-loop-next
invariant-loop-next l = record {
  leads : l.self.leads.items ≡ l.fn.self.leads.items;
  counts : l.self.counts.items ≡ l.fn.self.counts.items;
  walking : IsWalking l.fn.self.leads.items l.fn.self.left.items l.self.left.items l.fn.self.counts.items l.home l.v l.total l.circle l.fn.on.items l.on.items;
}

abbrev pub decreases-loop-next : goal.decreases-loop-next
decreases-loop-next l = leads_left l.self
