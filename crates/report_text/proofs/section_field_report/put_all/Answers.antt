use Rattle.std.proofs.Common.{◌<◌, length, arith}
use Rattle.dump_io.specs.Laws.Puts.{HasPut-more, Puts-broken}
use Rattle.report_text.specs.Tables.{section_field_line}
use Rattle.section_rows.specs.Laws.{row_at-there}
use Rattle.report_text.proofs.section_field_report.put_all.Goals as goal

pub loop-i-preserved : goal.loop-i-preserved
loop-i-preserved g c =
    let rows = c.args.fields.now in
    let within : c.loop-i.i < length rows = omega (arith, c.len-i-end.ensures, c.loop-i-test.true) in
    HasPut-more section_field_line rows c.loop-i.i _ (row_at-there rows c.loop-i.i within) c.loop-i.invariant c.in_ok-put_section_field.ensures

pub returns-in_err-put_section_field : goal.returns-in_err-put_section_field
returns-in_err-put_section_field g c =
    let rows = c.args.fields.now in
    let within : c.loop-i.i < length rows = omega (arith, c.len-i-end.ensures, c.loop-i-test.true) in
    Puts-broken section_field_line rows c.loop-i.i _ (row_at-there rows c.loop-i.i within) c.loop-i.invariant c.from_residual.ensures.0 c.in_err-put_section_field.ensures
