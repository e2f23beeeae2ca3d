use Rattle.std.proofs.Common.{◌≡◌, ◌+◌, length, take, sym, subst}
use Rattle.std.proofs.lemmas.List.{length-take-le}
use Rattle.root_views.proofs.HearFacts.{TookFront, TookFront-more}
use Rattle.root_views.proofs.roots_of_lines.hear_lines.Goals as goal

pub loop-rest-preserved : goal.loop-rest-preserved
loop-rest-preserved c =
    let rest = c.loop-rest.rest.now in
    let size = c.line_len-size.result in
    let is : size ≡ length (take size rest) = sym (length-take-le size rest c.line_len-size.ensures.within) in
    record {
      ready = c.in_ok-hear_line.ensures.ready;
      took = subst (TookFront c.args.sink.now c.hear_line.new.sink c.args.at c.args.run.now (c.loop-rest.line + size)) (sym c.bytes_from-rest.ensures)
          (TookFront-more c.args.sink.now c.loop-rest.sink c.hear_line.new.sink c.args.at c.args.run.now c.loop-rest.line rest size is c.line_len-size.ensures.first c.loop-rest.invariant.took c.in_ok-hear_line.ensures.takes);
    }
