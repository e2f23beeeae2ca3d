use Rattle.std.proofs.Common.{map, arith}
use Rattle.std.proofs.lemmas.List.{length-map}
use Rattle.cell_records.proofs.OrderFacts.{pairs-moved}
use Rattle.cell_records.proofs.order.ranks_of.Goals as goal

pub returns : goal.returns
returns g c = record {
  few = omega (arith, c.requires, length-map c.args.cells.now g.T.Located.address);
  pairs_are = pairs-moved (map g.T.Located.address c.args.cells.now) c.in_ok-ranks.ranks c.sort.new.self c.in_ok-ranks.ensures c.sort.ensures.permutation;
  sorted = c.sort.ensures.sorted;
}
