use Rattle.std.proofs.Common.{arith}
use Rattle.heap_cells.proofs.HeapFacts as facts
use Rattle.heap_cells.proofs.heap.Heap.own.Goals as goal

pub returns-clause-within : goal.returns-clause-within
returns-clause-within c =
    let h = c.self.inside in
    omega (arith, facts.count-lines h c.args.self.now c.self.invariant c.self.view_is, c.self.invariant.own_few)
