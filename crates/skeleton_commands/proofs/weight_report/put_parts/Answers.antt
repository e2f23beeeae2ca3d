use Rattle.std.proofs.Common.{◌<◌, take, arith}
use Rattle.std.proofs.lemmas.List.{length-take}
use Rattle.dump_io.specs.Laws.Puts.{HasPut-more, Puts-all, Puts-broken}
use Rattle.skeleton_commands.specs.Weights.{part_line}
use Rattle.skeleton_commands.proofs.RowFacts.{row-at}
use Rattle.skeleton_commands.proofs.weight_report.put_parts.Goals as goal

pub loop-i-preserved : goal.loop-i-preserved
loop-i-preserved g c =
    let rows = c.args.weights.now.rows in
    let inside : c.loop-i.i < c.args.most = omega (arith, c.loop-i-test.true, c.shown_parts-i-end.ensures) in
    HasPut-more part_line (take c.args.most rows) c.loop-i.i _ (row-at rows c.args.most c.loop-i.i _ inside c.row.ensures) c.loop-i.invariant c.in_ok-put_part.ensures

pub returns-in_err-put_part : goal.returns-in_err-put_part
returns-in_err-put_part g c =
    let rows = c.args.weights.now.rows in
    let inside : c.loop-i.i < c.args.most = omega (arith, c.loop-i-test.true, c.shown_parts-i-end.ensures) in
    Puts-broken part_line (take c.args.most rows) c.loop-i.i _ (row-at rows c.args.most c.loop-i.i _ inside c.row.ensures) c.loop-i.invariant c.from_residual.ensures.0 c.in_err-put_part.ensures

pub returns : goal.returns
returns g c =
    let rows = c.args.weights.now.rows in
    Puts-all part_line (take c.args.most rows) c.loop-i.i (omega (arith, c.loop-i-test.false, c.shown_parts-i-end.ensures, length-take c.args.most rows)) c.loop-i.invariant
