use Rattle.std.proofs.Common.{length, sym, ◌∙◌, ap, arith}
use Rattle.std.proofs.lemmas.List.{drop_all}
use Rattle.dump_io.specs.Pieces.{pieces_text}
use Rattle.dump_io.proofs.Fronts.{gathered}
use Rattle.dump_io.proofs.pieces.gather.Goals as goal

pub loop-left-init : goal.loop-left-init
loop-left-init c =
    let pieces = c.args.pieces.now in
    record {
      within = omega arith;
      text = c.requires ∙ sym (ap pieces_text (drop_all (length pieces) pieces (omega arith)));
    }

pub loop-left-preserved : goal.loop-left-preserved
loop-left-preserved c =
    let all = c.loop-left.invariant in
    record {
      within = omega (arith, all.within);
      text = gathered c.args.pieces.now c.loop-left.left _ c.loop-left.text c.put_before.new.text c.put_before.result c.loop-left-test.true all.within all.text
          c.put_before.ensures c.if-not-put_before.false;
    }
