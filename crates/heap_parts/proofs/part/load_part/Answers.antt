use Rattle.heap_parts.proofs.GrowFacts.{enough-for, firsts-none}
use Rattle.heap_parts.proofs.WholeFacts.{lines-tell}
use Rattle.heap_parts.specs.Wholes.{known_of}
use Rattle.heap_parts.proofs.part.load_part.Goals as goal

pub returns-clause-enough : goal.returns-clause-enough
returns-clause-enough g c = λ all has.
    let whole = c.args.whole.now in
    let lines = c.gather_roots.new.g.lines.items in
    let state = g.D.Dumps.state c.args.dumps.now in
    enough-for all c.in_ok-heap.heap.cells (known_of whole) c.args.roots.now c.args.budget whole.enc lines c.part_is_enough.ensures c.in_ok-heap.ensures.heap.0.cells
    (c.in_ok-gather_roots.ensures.grows.firsts all has (firsts-none all whole.enc _ c.new-g.ensures)) (lines-tell whole state.now all has c.form_is_read.ensures.found) (c.in_ok-gap.ensures c.if-gap.false)
