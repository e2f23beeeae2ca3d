use Rattle.std.proofs.Common.{◌∙◌, ap}
use Rattle.text_groups.specs.Groups.{item_at}
use Rattle.heap_levels.proofs.ShapeFacts.{text-at}
use Rattle.heap_levels.proofs.shape_rows.ShapedItemsGrouped.text.Goals as goal

pub returns : goal.returns
returns c =
    let s = c.self.inside in
    c.shape_at.ensures ∙ text-at s.texts.now s.words.now c.args.i c.self.invariant ∙ ap (λ l. (item_at l c.args.i).text) c.self.view_is
