use Rattle.heap_parts.specs.Inner.Growing.{Grows}
use Rattle.heap_parts.proofs.search.visit_all.Given as goal

abbrev pub invariant-loop : goal.invariant-loop
invariant-loop g l =
    let d = g.D.Dumps in
    record {
      grows : Grows l.from (d.state l.fn.dumps) (d.state l.dumps) l.fn.g.lines.items l.g.lines.items;
    }
