use Rattle.std.proofs.Common.{◌++◌, [], ◌∷◌, List, ◌∙◌, ap, ap₂}
use Rattle.heap_levels.specs.Inner.Descent.{shown_row, shown_rows}
use Rattle.heap_levels.specs.declared.level_rows.LevelRow.{LevelRow}
use Rattle.heap_levels.proofs.RowFacts.{shown-push}
use Rattle.heap_levels.proofs.level_rows.LevelRows.push.Goals as goal

pub returns : goal.returns
returns c =
    let rows = c.self.inside.rows.items in
    let labels = c.self.inside.labels in
    let f = c.args.found.now in
    let r : LevelRow = record { words = f.words; cells = f.cells; binaries = f.binaries; kind = f.kind; address = f.address; elements = f.elements; at = f.at } in
    ap₂ shown_rows (c.push_reserved.ensures.items ∙ ap (λ (l : List LevelRow). l ++ r ∷ []) c.reserve.ensures.items) c.in_ok-push.ensures
    ∙ shown-push rows labels r f.label.now c.self.invariant
    ∙ ap (λ l. l ++ shown_row (r, f.label.now) ∷ []) c.self.view_is
