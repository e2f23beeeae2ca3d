use Rattle.std.proofs.Common.{arith}
use Rattle.heap_skeleton.proofs.ShownFacts.{cells-shown}
use Rattle.heap_skeleton.proofs.skeleton.SkeletonWeighed.own.Goals as goal

pub returns-clause-within : goal.returns-clause-within
returns-clause-within c =
    let s = c.self.inside in
    let count = cells-shown s.own s.parts.items s.kinds.items s.leads.items c.args.self.now c.self.view_is in
    omega (arith, c.self.invariant.0.own_few, count)
