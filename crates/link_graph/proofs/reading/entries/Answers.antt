use Rattle.std.proofs.Common.{sym, subst}
use Rattle.std.specs.Prelude.{◌↔◌, IsSome}
use Rattle.link_graph.specs.Entries.{IsList}
use Rattle.link_graph.proofs.Closed.{list_is}
use Rattle.link_graph.proofs.reading.entries.Goals as goal

pub returns-clause-list : goal.returns-clause-list
returns-clause-list c = subst (λ o. IsSome o ↔ IsList c.args.text.now) (sym c.new.ensures.value) (list_is c.args.text.now)
