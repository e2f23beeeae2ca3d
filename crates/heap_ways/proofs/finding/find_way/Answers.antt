use Rattle.heap_ways.specs.Ways.{is_part}
use Rattle.heap_ways.proofs.finding.find_way.Goals as goal

pub returns-clause-within : goal.returns-clause-within
returns-clause-within c = c.in_ok-way.ensures.within c.args.skeleton.now.leads (is_part c.args.parts.now.parts) c.in_ok-ways.ensures
