use Rattle.std.proofs.Common.{◌+◌, Some, sym, ◌∙◌, ap}
use Rattle.std.proofs.lemmas.Option.{slice_get-get_or}
use Rattle.heap_levels.proofs.RowFacts.{labelled-next}
use Rattle.heap_levels.proofs.labelling.levels_labelled.Goals as goal

pub loop-keyed-preserved : goal.loop-keyed-preserved
loop-keyed-preserved c =
    labelled-next c.args.labels.now c.args.levels.now c.loop-keyed.keyed-index c.keyed-item.result c.in_ok-level_labelled.field-0 c.loop-keyed.labelled.items c.push.new.self.items c.loop-keyed.from c.in_ok-from.from
    (slice_get-get_or c.args.levels.now c.loop-keyed.keyed-index c.keyed-item.result c.loop-keyed-test.true ∙ ap Some (sym c.keyed-item.is)) c.loop-keyed.invariant c.in_ok-level_labelled.ensures c.in_ok-push.ensures.items (c.in_ok-from.ensures ∙ ap (λ n. c.loop-keyed.from + n) (c.len.ensures ∙ c.keyed-item.result.keys.ok.0))
