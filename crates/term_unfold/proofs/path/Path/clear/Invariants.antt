use Rattle.std.proofs.Common.{◌≡◌, length}
use Rattle.term_unfold.proofs.path.Path.clear.Given as goal

abbrev pub invariant-loop-self : goal.invariant-loop-self
invariant-loop-self l = (l.self.cells ≡ l.initial.self.cells) × (l.self.reserved ≡ l.initial.self.reserved)

abbrev pub decreases-loop-self : goal.decreases-loop-self
decreases-loop-self l = length l.self.entries
