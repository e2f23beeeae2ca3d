use Rattle.std.proofs.Common.{sym, ◌∙◌, ap, length}
use Rattle.tuple_fronts.proofs.PartFacts.{length-shown}
use Rattle.tuple_fronts.proofs.fronts.TupleFronts.len.Goals as goal

pub returns : goal.returns
returns c = c.len.ensures ∙ c.self.inside.kept.lasts.ok.0 ∙ sym (length-shown c.self.inside.kept) ∙ ap length c.self.view_is
