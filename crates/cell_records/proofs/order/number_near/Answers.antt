use Rattle.std.proofs.Common.{map, sym}
use Rattle.cell_records.proofs.FirstFacts.{stands-first}
use Rattle.cell_records.proofs.order.number_near.Goals as goal

pub returns-then-stands_at : goal.returns-then-stands_at
returns-then-stands_at g c =
    sym (stands-first (map g.T.Located.address c.args.cells.now) c.args.address c.args.near c.requires.distinct (c.stands_at.ensures c.if-stands_at.true))

pub find-requires : goal.find-requires
find-requires g c = record { addresses = map g.T.Located.address c.args.cells.now; ranked = c.requires.ranked }

pub returns : goal.returns
returns g c = c.find.ensures (map g.T.Located.address c.args.cells.now) c.requires.ranked
