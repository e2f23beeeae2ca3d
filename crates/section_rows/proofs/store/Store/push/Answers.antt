use Rattle.std.proofs.Common.{length, map, sym, ◌∙◌, ap, subst}
use Rattle.std.specs.Prelude.{OnOk}
use Rattle.std.proofs.lemmas.List.{length-map}
use Rattle.section_rows.specs.Shown.{shown_cell, shown_column}
use Rattle.section_rows.specs.Rows.{column_cell, row_with}
use Rattle.section_rows.specs.Inner.Lent.{shown_section}
use Rattle.section_rows.specs.Inner.Places.{HasGained}
use Rattle.section_rows.proofs.store.Store.push.Goals as goal

pub push_row-requires-clause-width : goal.push_row-requires-clause-width
push_row-requires-clause-width c =
    let columns = map shown_column c.args.columns.now in
    let cells = column_cell (shown_section c.args.section.now) c.args.body.now in
    c.requires.width ∙ sym (length-map columns cells ∙ length-map c.args.columns.now shown_column) ∙ sym (ap length c.in_ok-cells.ensures.cells)
    ∙ length-map c.in_ok-cells.cells.items shown_cell ∙ ap length (sym c.deref.ensures.value)

pub returns : goal.returns
returns c =
    subst (λ cells. OnOk c.push_row.result (HasGained c.args.self.now c.push_row.new.self (row_with c.args.section.now.at cells)))
    (ap (map shown_cell) c.deref.ensures.value ∙ c.in_ok-cells.ensures.cells) c.push_row.ensures
