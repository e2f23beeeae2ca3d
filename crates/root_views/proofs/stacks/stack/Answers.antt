use Rattle.root_views.proofs.RootFacts.{stack_inside}
use Rattle.root_views.proofs.stacks.stack.Goals as goal

pub returns-clause-inside : goal.returns-clause-inside
returns-clause-inside c = stack_inside c.args.body.now c.lines.result c.lines.ensures.parts
