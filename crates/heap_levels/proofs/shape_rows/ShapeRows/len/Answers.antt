use Rattle.std.proofs.Common.{length, sym, ◌∙◌, ap}
use Rattle.heap_levels.proofs.ShapeFacts.{shown-count}
use Rattle.heap_levels.proofs.shape_rows.ShapeRows.len.Goals as goal

pub returns : goal.returns
returns c =
    let s = c.self.inside in
    c.len.ensures ∙ s.groups.ok.0 ∙ sym (shown-count s.groups.items s.texts c.self.invariant) ∙ ap length c.self.view_is
