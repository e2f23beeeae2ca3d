use Rattle.std.proofs.Common.{ap, decimal}
use Rattle.dump_io.specs.Laws.Puts.{Puts-then, Puts-stopped, Puts-as}
use Rattle.section_rows.specs.Rows.{row_at}
use Rattle.report_text.proofs.RowTexts.{cells-told}
use Rattle.report_text.proofs.table_report.put_row.Goals as goal

pub returns-in_err-put_dec : goal.returns-in_err-put_dec
returns-in_err-put_dec g c =
    let row = row_at c.args.rows.now.rows c.args.i in
    Puts-as (cells-told (decimal row.at) row.cells)
    (Puts-stopped _ c.from_residual.ensures.0 (Puts-as (ap decimal c.at.ensures) c.in_err-put_dec.ensures))

pub returns-in_err-put_cells : goal.returns-in_err-put_cells
returns-in_err-put_cells g c =
    let row = row_at c.args.rows.now.rows c.args.i in
    Puts-as (cells-told (decimal row.at) row.cells)
    (Puts-then (Puts-as (ap decimal c.at.ensures) c.in_ok-put_dec.ensures) (Puts-stopped _ c.from_residual-in_err-put_cells.ensures.0 c.in_err-put_cells.ensures))

pub returns : goal.returns
returns g c =
    let row = row_at c.args.rows.now.rows c.args.i in
    Puts-as (cells-told (decimal row.at) row.cells)
    (Puts-then (Puts-as (ap decimal c.at.ensures) c.in_ok-put_dec.ensures) (Puts-then c.in_ok-put_cells.ensures c.write_all.ensures.puts))
