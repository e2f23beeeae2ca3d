use Rattle.std.proofs.Common.{◌+◌, ◌∙◌, ap}
use Rattle.heap_graph.specs.Held.{start_at}
use Rattle.heap_graph.specs.Laws.Laid.{span-held}
use Rattle.heap_graph.proofs.keeping.span_at.Goals as goal

pub returns : goal.returns
returns c =
    span-held c.args.held.now c.args.i c.start_at-from.result c.start_at-upto.result c.len-total.result c.requires.holds c.requires.place c.len-total.ensures
    (c.start_at-from.ensures ∙ ap (λ l. start_at l c.args.i c.len-total.result) c.deref.ensures.value)
    (c.start_at-upto.ensures ∙ ap (λ l. start_at l (c.args.i + 1) c.len-total.result) c.deref-2.ensures.value)
