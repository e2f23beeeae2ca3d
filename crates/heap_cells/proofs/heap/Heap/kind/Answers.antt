use Rattle.std.proofs.Common.{◌≡◌, get_or, subst, arith}
use Rattle.heap_cells.specs.Targets.{number}
use Rattle.heap_cells.proofs.HeapFacts as facts
use Rattle.heap_cells.proofs.heap.Heap.kind.Goals as goal

pub index-requires : goal.index-requires
index-requires c =
    let h = c.self.inside in
    omega (arith, c.requires, facts.count-kinds h c.args.self.now c.self.invariant c.self.view_is, c.number.ensures, h.kinds.ok.0)

pub returns : goal.returns
returns c =
    let h = c.self.inside in
    facts.kind-of h c.args.self.now c.self.invariant c.self.view_is (number c.args.ix) c.requires c.index.result.now
    (subst (λ n. c.index.result.now ≡ get_or h.kinds.items n c.index.result.now) c.number.ensures c.index.ensures)
