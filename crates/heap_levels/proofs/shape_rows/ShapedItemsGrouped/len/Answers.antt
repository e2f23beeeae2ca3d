use Rattle.std.proofs.Common.{length, sym, ◌∙◌, ap}
use Rattle.heap_levels.proofs.ShapeFacts.{items-count}
use Rattle.heap_levels.proofs.shape_rows.ShapedItemsGrouped.len.Goals as goal

pub returns : goal.returns
returns c =
    let s = c.self.inside in
    sym (items-count s.texts.now s.words.now c.self.invariant) ∙ ap length c.self.view_is
