use Rattle.root_views.proofs.RootFacts.{dict_inside}
use Rattle.root_views.proofs.dictionaries.dict.Goals as goal

pub returns-clause-inside : goal.returns-clause-inside
returns-clause-inside c = dict_inside c.args.body.now c.lines.result c.lines.ensures.parts
