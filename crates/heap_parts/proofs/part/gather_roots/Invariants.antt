use Rattle.heap_parts.specs.Inner.Growing.{Grows}
use Rattle.heap_parts.proofs.part.gather_roots.Given as goal

abbrev pub invariant-loop-root : goal.invariant-loop-root
invariant-loop-root g l =
    let d = g.D.Dumps in
    record {
      grows : Grows l.from (d.state l.fn.dumps) (d.state l.dumps) l.fn.g.lines.items l.g.lines.items;
    }
