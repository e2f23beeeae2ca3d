use Rattle.std.proofs.Common.{length, take, ◌∙◌}
use Rattle.binary_holders.proofs.Scans.{some-more}
use Rattle.binary_holders.proofs.CountFacts.{room-kept, keeps-then}
use Rattle.binary_holders.proofs.scanning.count_lines.Goals as goal

pub loop-rest-preserved : goal.loop-rest-preserved
loop-rest-preserved c =
    let before = c.loop-rest.invariant in
    let found = c.gather-count.ensures in
    let one = c.count_references.ensures in
    record {
      size = found.size ∙ before.size;
      room = room-kept (length c.args.targets.now) c.loop-rest.counts c.count_references.new.counts before.room one.room;
      keeps = keeps-then c.args.counts.now c.loop-rest.counts c.count_references.new.counts before.keeps one.room;
      some = some-more c.args.enc c.args.targets.now c.args.counts.now c.loop-rest.counts c.count_references.new.counts c.args.bytes.now c.loop-rest.rest.now c.gather-count.result.1.now
          (take c.gather-count.result.0 c.gather-count.new.references) before.some found.found one.adds;
    }
