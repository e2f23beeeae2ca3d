use Rattle.std.proofs.Common.{◌≡◌}
use Rattle.wait_circles.specs.Inner.Telling.{AreTelling}
use Rattle.wait_circles.proofs.WalkFacts.{HasCircles}
use Rattle.wait_circles.proofs.tokens.Tokens.take_circles.Given as goal

-- the circles whose first number is one of those so far were taken
abbrev pub invariant-loop-home : goal.invariant-loop-home
invariant-loop-home l = record {
  leads : l.self.leads.items ≡ l.fn.self.leads.items;
  telling : AreTelling l.self l.home;
  has : HasCircles l.fn.self.leads.items l.count l.home l.circles l.on.items;
}
