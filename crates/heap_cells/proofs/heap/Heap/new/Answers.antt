use Rattle.std.proofs.Common.{arith}
use Rattle.heap_cells.proofs.HeapFacts.{own-few, settled-in}
use Rattle.heap_cells.proofs.heap.Heap.new.Goals as goal

pub settle-requires-clause-own : goal.settle-requires-clause-own
settle-requires-clause-own c = own-few c.args.texts c.in_ok-held.held c.in_ok-held.own c.in_ok-held.ensures.holds

pub heap_of-requires-clause-settled : goal.heap_of-requires-clause-settled
heap_of-requires-clause-settled c =
    let weight = c.in_ok-held.ensures.weight in
    settled-in c.args.texts c.in_ok-held.held c.in_ok-held.own c.in_ok-settle.field-0 c.in_ok-held.ensures.holds c.in_ok-settle.ensures.kept (omega (arith, weight, c.requires.limit))
    c.in_ok-settle.ensures.small c.in_ok-settle.ensures.ranked c.in_ok-settle.ensures.distinct
