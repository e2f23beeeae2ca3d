use Rattle.std.proofs.Common.{◌<◌, length, arith}
use Rattle.dump_io.specs.Laws.Puts.{HasPut-more, Puts-broken}
use Rattle.report_text.specs.Tables.{value_line}
use Rattle.section_rows.specs.Laws.{row_at-there}
use Rattle.report_text.proofs.value_report.put_all.Goals as goal

pub loop-i-preserved : goal.loop-i-preserved
loop-i-preserved g c =
    let rows = c.args.table.now.rows in
    let within : c.loop-i.i < length rows = omega (arith, c.len-i-end.ensures, c.loop-i-test.true) in
    HasPut-more value_line rows c.loop-i.i _ (row_at-there rows c.loop-i.i within) c.loop-i.invariant c.in_ok-put_value.ensures

pub returns-in_err-put_value : goal.returns-in_err-put_value
returns-in_err-put_value g c =
    let rows = c.args.table.now.rows in
    let within : c.loop-i.i < length rows = omega (arith, c.len-i-end.ensures, c.loop-i-test.true) in
    Puts-broken value_line rows c.loop-i.i _ (row_at-there rows c.loop-i.i within) c.loop-i.invariant c.from_residual.ensures.0 c.in_err-put_value.ensures
