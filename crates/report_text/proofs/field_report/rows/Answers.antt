use Rattle.std.proofs.Common.{◌≤◌, ◌<◌, ◌^◌, filter, length, ap, arith, rules}
use Rattle.std.proofs.lemmas.List.Sums.{length-filter, count_by-le-length}
use Rattle.field_lines.specs.Lines.{text_lines}
use Rattle.report_text.specs.Tables.{has_row}
use Rattle.report_text.proofs.field_report.rows.Goals as goal

pub overflow_add-rows : goal.overflow_add-rows
overflow_add-rows c =
    let few : length c.args.body.now < 2 ^ 63 = search rules in
    let kept : length (filter has_row (text_lines c.args.body.now)) ≤ length (text_lines c.args.body.now) =
    omega (arith, length-filter has_row (text_lines c.args.body.now), count_by-le-length has_row (text_lines c.args.body.now)) in
    let lines : length (text_lines c.args.body.now) ≤ length c.args.body.now = omega (arith, c.lines-line-items.ensures.count, ap length c.lines-line-items.ensures.value) in
    omega (arith, few, kept, lines, c.loop-line.invariant.2)
