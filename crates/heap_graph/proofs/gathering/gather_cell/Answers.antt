use Rattle.std.proofs.Common.{refl, rules}
use Rattle.heap_graph.specs.Laws.Gains.{Gains-cell}
use Rattle.heap_graph.proofs.gathering.gather_cell.Goals as goal

pub returns-clause-gains : goal.returns-clause-gains
returns-clause-gains c =
    Gains-cell c.args.held.now c.push.new.self c.push_form.new.elements c.args.enc c.args.at c.args.«from» (c.args.address, c.args.text.now) c.len-first.result _ c.in-Ok.size
    c.place_and_size-place.result c.in_ok-read.read c.in_ok-read.ensures.pushed c.in_ok-read.ensures.read c.len-first.ensures refl c.place_and_size-place.ensures (search rules)
    c.in_ok-push.ensures.parts c.in_ok-push.ensures.kinds c.in_ok-push.ensures.elements
