use Rattle.std.proofs.Common.{◌<◌, ◌∙◌, subst, sym}
use Rattle.std.specs.Prelude.{IfSome}
use Rattle.heap_graph.specs.Leads.{nowhere}
use Rattle.heap_weights.proofs.LastPlaces.{cell-marked}
use Rattle.heap_weights.proofs.lasts.mark_of.Goals as goal

pub returns-in-Some : goal.returns-in-Some
returns-in-Some c = cell-marked c.in-Some.cell (subst (λ lead. IfSome lead (λ n. n < nowhere)) c.in-Some.is c.requires) ∙ sym c.in-Some.is
