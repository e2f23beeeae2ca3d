use Rattle.cell_parts.proofs.Passing.{frames-left, goes-first}
use Rattle.cell_parts.proofs.elements.add_elements.Goals as goal

pub loop-at-init : goal.loop-at-init
loop-at-init c =
    goes-first c.args.skeleton.now.kinds c.args.skeleton.now.leads c.args.cell c.cells.result c.args.parts.now c.open.new.walk c.in_ok-passed.passed.items c.new.result.items
    c.requires.cells c.cells.ensures.graph c.requires.cell (c.in_ok-passed.ensures.items_if_clones_equal (λ y is. is)) c.new.ensures.items c.in_ok-open.ensures.marks c.in_ok-open.ensures.frames c.in_ok-open.ensures.waiting

pub pass-requires-clause-frames : goal.pass-requires-clause-frames
pass-requires-clause-frames c =
    frames-left c.args.skeleton.now.kinds c.args.skeleton.now.leads c.args.cell c.args.parts.now c.loop-at.parts c.loop-at.walk c.loop-at.invariant
    c.pop.new.self.items c.in-Some.at c.in-Some.ensures.items
