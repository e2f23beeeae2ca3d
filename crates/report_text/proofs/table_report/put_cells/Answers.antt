use Rattle.std.proofs.Common.{◌≡◌, ◌<◌, [], ◌∷◌, length, ap, arith}
use Rattle.std.specs.List.{concat}
use Rattle.dump_io.specs.Laws.Puts.{HasPut-more, Puts-broken, Puts-all, Puts-as}
use Rattle.section_rows.specs.Rows.{row_at, cell_at}
use Rattle.report_lines.specs.Lines.{tab}
use Rattle.report_text.specs.Inner.Rows.{next_cell}
use Rattle.section_rows.specs.Laws.{cell_at-there}
use Rattle.report_text.proofs.TableFacts.{even-row}
use Rattle.report_text.proofs.table_report.put_cells.Goals as goal

pub loop-c-preserved : goal.loop-c-preserved
loop-c-preserved g c =
    let table = c.args.rows.now in
    let row = row_at table.rows c.args.i in
    let width : length row.cells ≡ table.width = even-row table c.args.i c.requires.even c.requires.place in
    let within : c.loop-c.c < length row.cells = omega (arith, width, c.columns-c-end.ensures, c.loop-c-test.true) in
    HasPut-more next_cell row.cells c.loop-c.c (cell_at row c.loop-c.c) (cell_at-there row c.loop-c.c within) c.loop-c.invariant
    (Puts-as (ap (λ t. concat (tab ∷ t ∷ [])) c.text_at.ensures) c.in_ok-put_pieces.ensures)

pub returns-in_err-put_pieces : goal.returns-in_err-put_pieces
returns-in_err-put_pieces g c =
    let table = c.args.rows.now in
    let row = row_at table.rows c.args.i in
    let width : length row.cells ≡ table.width = even-row table c.args.i c.requires.even c.requires.place in
    let within : c.loop-c.c < length row.cells = omega (arith, width, c.columns-c-end.ensures, c.loop-c-test.true) in
    Puts-broken next_cell row.cells c.loop-c.c (cell_at row c.loop-c.c) (cell_at-there row c.loop-c.c within) c.loop-c.invariant c.from_residual.ensures.0
    (Puts-as (ap (λ t. concat (tab ∷ t ∷ [])) c.text_at.ensures) c.in_err-put_pieces.ensures)

pub returns : goal.returns
returns g c =
    let table = c.args.rows.now in
    let row = row_at table.rows c.args.i in
    let width : length row.cells ≡ table.width = even-row table c.args.i c.requires.even c.requires.place in
    Puts-all next_cell row.cells c.loop-c.c (omega (arith, width, c.columns-c-end.ensures, c.loop-c-test.false)) c.loop-c.invariant
