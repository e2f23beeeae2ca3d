use Rattle.std.proofs.Common.{◌≡◌, ◌-◌, ◌≤◌, false, None}
use Rattle.dump_io.specs.Dumps.{ReadsAtMost}
use Rattle.section_index.specs.Inner.Reading.{HasBegun}
use Rattle.section_index.proofs.builder.feed_rest.Given as goal

abbrev pub invariant-loop-at : goal.invariant-loop-at
invariant-loop-at g l =
    let d = g.D.Dumps in
    record {
      from : l.from ≤ l.at;
      inside : l.at ≤ l.size;
      reads : ReadsAtMost (d.state l.initial.dumps) (d.state l.dumps) (l.at - l.from);
      fresh : l.scan.spent ≡ false;
      limit : l.scan.limit ≡ l.initial.scan.limit;
      offset : l.scan.offset ≡ l.at;
      silent : l.receiver.stop ≡ None;
      begun : HasBegun (d.state l.initial.dumps).now l.scan l.receiver;
    }

abbrev pub decreases-loop-at : goal.decreases-loop-at
decreases-loop-at g l = l.size - l.at
