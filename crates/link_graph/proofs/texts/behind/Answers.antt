use Rattle.std.proofs.lemmas.Slice.Eq.{strip_prefix_is}
use Rattle.std.proofs.lemmas.Bool.Decides.{Decides-eqb}
use Rattle.link_graph.proofs.Fronts.{behind_is}
use Rattle.link_graph.proofs.texts.behind.Goals as goal

pub returns-clause-value : goal.returns-clause-value
returns-clause-value c =
    behind_is c.args.front.now c.args.text.now c.strip_prefix.result
    (strip_prefix_is Decides-eqb c.args.text.now c.args.front.now c.strip_prefix.result c.strip_prefix.ensures.cases)
