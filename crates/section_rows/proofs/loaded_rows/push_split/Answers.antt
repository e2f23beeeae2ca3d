use Rattle.std.proofs.Common.{drop, map, take, ◌∙◌, ap, subst}
use Rattle.std.specs.Prelude.{OnOk}
use Rattle.section_rows.specs.Rows.{column_cell, row_with}
use Rattle.section_rows.specs.Shown.{shown_cell, shown_column}
use Rattle.section_rows.specs.Inner.Lent.{shown_section}
use Rattle.section_rows.specs.Inner.Places.{HasGained}
use Rattle.section_rows.proofs.Loaded.{on-ok, fronts-shown, others-shown}
use Rattle.section_rows.proofs.loaded_rows.push_split.Goals as goal

pub returns-clause-first : goal.returns-clause-first
returns-clause-first c =
    let cell = column_cell (shown_section c.args.section.now) c.args.body.now in
    let fronts = c.split_at.result.0.now in
    let are = fronts-shown shown_cell cell shown_column c.in_ok-cells.cells.items c.args.columns.now c.args.first c.in_ok-cells.ensures.cells fronts
    (c.split_at.ensures.front ∙ ap (take c.args.first) c.deref.ensures.value) in
    on-ok c.push_row-2.result (subst (λ cells. HasGained c.args.split.now.first c.push_row.new.self (row_with c.args.section.now.at cells)) are c.in_ok-push_row.ensures)

pub returns-clause-second : goal.returns-clause-second
returns-clause-second c =
    let cell = column_cell (shown_section c.args.section.now) c.args.body.now in
    let others = c.split_at.result.1.now in
    let are = others-shown shown_cell cell shown_column c.in_ok-cells.cells.items c.args.columns.now c.args.first c.in_ok-cells.ensures.cells others
    (c.split_at.ensures.back ∙ ap (drop c.args.first) c.deref.ensures.value) in
    subst (λ cells. OnOk c.push_row-2.result (HasGained c.args.split.now.second c.push_row-2.new.self (row_with c.args.section.now.at cells))) are c.push_row-2.ensures
