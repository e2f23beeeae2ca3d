use Rattle.std.proofs.lemmas.Slice.Eq.{strip_suffix_is}
use Rattle.std.proofs.lemmas.Bool.Decides.{Decides-eqb}
use Rattle.link_graph.proofs.Fronts.{before_is}
use Rattle.link_graph.proofs.texts.before.Goals as goal

pub returns-clause-value : goal.returns-clause-value
returns-clause-value c =
    before_is c.args.back.now c.args.text.now c.strip_suffix.result
    (strip_suffix_is Decides-eqb c.args.text.now c.args.back.now c.strip_suffix.result c.strip_suffix.ensures.cases)
