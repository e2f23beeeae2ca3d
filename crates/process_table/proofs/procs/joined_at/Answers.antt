use Rattle.std.proofs.Common.{sym, ◌∙◌}
use Rattle.section_rows.specs.Rows.{row_at}
use Rattle.process_table.specs.Inner.Finding.{named_places}
use Rattle.process_table.proofs.Joining.{length-named, all_joined-at, cell_at-read, joined-cells}
use Rattle.process_table.proofs.procs.joined_at.Goals as goal

pub returns : goal.returns
returns c =
    let rows = c.args.fields.now.rows in
    let i = c.args.i in
    cc (all_joined-at (named_places c.args.places.now) rows i _ (c.requires.rows ∙ sym (length-named c.args.places.now)) c.place_at-section.ensures, joined-cells _ (row_at rows i) _ _ _ _ _ _ _ (cell_at-read rows i 0 _ c.cell.ensures) (cell_at-read rows i 1 _ c.cell-2.ensures) (cell_at-read rows i 2 _ c.cell-3.ensures) (cell_at-read rows i 3 _ c.cell-4.ensures) (cell_at-read rows i 4 _ c.cell-5.ensures) (cell_at-read rows i 5 _ c.cell-6.ensures) (cell_at-read rows i 6 _ c.cell-7.ensures))
