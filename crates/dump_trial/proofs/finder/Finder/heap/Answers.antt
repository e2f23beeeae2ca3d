use Rattle.std.specs.Prelude.{codes}
use Rattle.dump_trial.proofs.Looked.{looked}
use Rattle.dump_trial.proofs.finder.Finder.heap.Goals as goal

pub returns : goal.returns
returns c =
    let index = c.self.inside.index.now in
    let there = looked index c.args.self.now (codes "proc_heap") c.args.pid.now _ c.get.result c.self.invariant.own c.self.view_is (c.get.ensures.section, c.get.ensures.within) in
    record { section = there.0; within = there.1 }
