use Rattle.std.proofs.Common.{◌∙◌, sym}
use Rattle.heap_weights.proofs.Turning.{marked-stop}
use Rattle.heap_weights.proofs.labels.Labels.is_marked.Goals as goal

pub returns : goal.returns
returns c = c.stops.ensures ∙ sym (marked-stop c.args.self.now.part c.args.self.now.holders c.args.cell)
