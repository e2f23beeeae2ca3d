use Rattle.binary_holders.proofs.counts.Counts.add_line.Goals as goal

pub returns-clause-counted : goal.returns-clause-counted
returns-clause-counted c = λ binaries heaps references had. record {
  turn = had.turn;
  seen_size = had.seen_size;
  holders_size = had.holders_size;
  upto = had.upto;
  seen = had.seen;
  holders = had.holders;
  count = had.count;
  total = had.total;
}
