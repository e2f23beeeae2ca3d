use Rattle.std.proofs.Common.{ap, arith}
use Rattle.heap_cells.specs.HeapMap.{HeapMap}
use Rattle.heap_cells.proofs.HeapFacts as facts
use Rattle.heap_cells.proofs.heap.Heap.cells.Goals as goal

pub overflow_cast-result : goal.overflow_cast-result
overflow_cast-result c =
    let h = c.self.inside in
    omega (arith, c.len.ensures, h.parts.ok.0, facts.count-parts h c.args.self.now c.self.invariant c.self.view_is, facts.cells-few h c.args.self.now c.self.invariant c.self.view_is)

pub returns-clause-bounded : goal.returns-clause-bounded
returns-clause-bounded c =
    let h = c.self.inside in
    let count = facts.count-lines h c.args.self.now c.self.invariant c.self.view_is in
    record {
      distinct = facts.distinct-are h c.args.self.now c.self.invariant c.self.view_is;
      weight = facts.weight-are h c.args.self.now c.self.invariant c.self.view_is;
      own = omega (arith, count, ap (λ (m : HeapMap). m.own) c.self.view_is, c.self.invariant.own_few);
    }
