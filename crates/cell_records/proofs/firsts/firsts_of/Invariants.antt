use Rattle.std.proofs.Common.{map}
use Rattle.cell_records.proofs.FirstFacts.{AreMarked}
use Rattle.cell_records.proofs.OrderFacts.{numbers_of}
use Rattle.cell_records.proofs.firsts.firsts_of.Given as goal

abbrev pub invariant-loop-place : goal.invariant-loop-place
invariant-loop-place g l = AreMarked (map g.T.Located.address l.cells) (numbers_of l.fn.ranks) l.firsts.items l.place
