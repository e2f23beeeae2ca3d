use Rattle.std.proofs.Common.{length, sym, ◌∙◌, ap}
use Rattle.part_weights.specs.Weights.{Weighing}
use Rattle.part_weights.proofs.KeyedFacts.{rows-count}
use Rattle.part_weights.proofs.weights.Weights.rows.Goals as goal

pub returns : goal.returns
returns c =
    let w = c.self.inside in
    c.len.ensures ∙ w.held.ok.0 ∙ sym (rows-count w.skeleton w.parts.parts w.labels w.held.items) ∙ ap (λ (v : Weighing). length v.rows) c.self.view_is
