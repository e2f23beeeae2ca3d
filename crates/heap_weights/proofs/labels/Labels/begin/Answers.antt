use Rattle.std.proofs.Common.{ap, ◌∙◌}
use Rattle.heap_weights.specs.Labels.{Labelling}
use Rattle.heap_weights.proofs.Labelling.{tied-begin}
use Rattle.heap_weights.proofs.labels.Labels.begin.Goals as goal

pub invariant_of-self : goal.invariant_of-self
invariant_of-self c =
    let inside = c.self.inside in (
      tied-begin inside.labels.items inside.part c.args.part inside.waiting.cap inside.waiting.items c.self.invariant.0 (ap (λ (l : Labelling). l.waiting) c.self.view_is ∙ c.requires.empty),
      c.requires.room,
    )
