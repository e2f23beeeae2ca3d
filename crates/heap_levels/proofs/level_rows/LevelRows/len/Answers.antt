use Rattle.std.proofs.Common.{length, sym, ◌∙◌, ap}
use Rattle.heap_levels.proofs.RowFacts.{shown-count}
use Rattle.heap_levels.proofs.level_rows.LevelRows.len.Goals as goal

pub returns : goal.returns
returns c =
    let s = c.self.inside in
    c.len.ensures ∙ s.rows.ok.0 ∙ sym (shown-count s.rows.items s.labels c.self.invariant) ∙ ap length c.self.view_is
