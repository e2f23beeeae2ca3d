use Rattle.cell_records.proofs.ResolvingFacts.{AreFound}
use Rattle.cell_records.proofs.resolving.push_references.Given as goal

abbrev pub invariant-loop-i : goal.invariant-loop-i
invariant-loop-i l = AreFound l.slots l.references l.i
