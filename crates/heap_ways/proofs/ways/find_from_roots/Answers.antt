use Rattle.std.proofs.Common.{ap, ◌∙◌}
use Rattle.tuple_fronts.specs.Fronts.{cells_for}
use Rattle.heap_ways.specs.Ways.{way_found}
use Rattle.heap_ways.proofs.ways.find_from_roots.Goals as goal

pub returns-clause-way : goal.returns-clause-way
returns-clause-way g c = λ bytes is.
    let made = c.in_ok-parts.ensures.parts bytes is in
    c.in_ok-way.ensures.way bytes (c.in_ok-parts.ensures.reads.same_now ∙ is)
    ∙ ap (λ parts. way_found c.args.skeleton (cells_for bytes c.args.index.now c.args.pid.now) parts c.args.cell) made.parts
