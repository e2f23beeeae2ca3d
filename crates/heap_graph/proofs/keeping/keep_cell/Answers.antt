use Rattle.std.proofs.Common.{arith}
use Rattle.heap_graph.specs.Laws.Laid.{keeps-line, kinds-count}
use Rattle.heap_graph.proofs.keeping.keep_cell.Goals as goal

pub index-requires-2 : goal.index-requires-2
index-requires-2 c =
    let held = c.args.held.now in
    let count = kinds-count c.requires.holds.lines held c.requires.holds.held_is in
    omega (arith, count, c.requires.place, held.kinds.ok.0)

pub returns-clause-keeps : goal.returns-clause-keeps
returns-clause-keeps c =
    keeps-line c.push.result c.args.held.now c.args.kept.now c.push.new.self c.extend.new.self c.args.i c.len-first.result c.index.result.now c.index.result.now
    c.index-2.result.now c.index-2.result.now c.args.references.now c.span_at-from.result c.requires.place c.span_at-from.ensures c.requires.alike c.index.ensures c.index-2.ensures c.len-first.ensures
    c.in_ok-extend.ensures.appended c.push.ensures.parts c.push.ensures.kinds c.push.ensures.elements
