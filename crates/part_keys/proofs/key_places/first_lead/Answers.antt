use Rattle.cell_graphs.specs.Laws.Places.{place-within}
use Rattle.part_keys.proofs.key_places.first_lead.Goals as goal

pub returns-clause-within : goal.returns-clause-within
returns-clause-within c = place-within c.args.skeleton.now.leads c.args.cell 0 c.lead.result c.leads_are_cells.ensures.within c.lead.ensures
