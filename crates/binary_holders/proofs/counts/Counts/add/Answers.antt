use Rattle.binary_holders.proofs.CountFacts.{heap-line, one-line, keeps-then}
use Rattle.binary_holders.proofs.counts.Counts.add.Goals as goal

pub returns-clause-room : goal.returns-clause-room
returns-clause-room c = keeps-then c.args.self.now c.add_number-known.new.self c.add_line.new.self c.add_number-known.ensures.room c.add_line.ensures.room

pub returns-clause-adds : goal.returns-clause-adds
returns-clause-adds c = record {
  numbers = record {
    later = λ heaps refs had. c.add_line.ensures.counted c.args.targets.now heaps _ (c.add_number-known.ensures.adds.later heaps refs had);
  };
  heap = heap-line c.args.targets.now c.args.reference c.args.self.now c.add_number-known.new.self c.add_line.new.self c.add_number-known.result
      c.add_number-known.ensures.heap c.add_number-known.ensures.known c.add_line.ensures.heap;
  lines = one-line c.args.targets.now c.args.self.now c.add_number-known.new.self c.add_line.new.self c.args.reference c.add_number-known.result
      c.add_number-known.ensures.lines c.add_number-known.ensures.known c.add_line.ensures.count c.add_line.ensures.unstored;
}
