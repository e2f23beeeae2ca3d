use Rattle.std.proofs.Common.{◌+◌, ◌-◌, sym, ◌∙◌, arith}
use Rattle.cell_ways.specs.Depths.{way_by}
use Rattle.cell_ways.specs.Ways.{at_cell}
use Rattle.cell_ways.proofs.Walking.{walk-next, walk-stop}
use Rattle.cell_ways.proofs.ways.walk_back.Goals as goal

pub returns-in_default : goal.returns-in_default
returns-in_default c =
    let before = at_cell c.args.befores.now in
    walk-stop before (way_by before c.args.steps c.args.cell) c.loop-step.here c.loop-step.back.items c.push.new.self.items c.in_ok-push.ensures.items
    (c.args.steps - c.loop-step._step) (c.args.steps - (c.loop-step._step + 1)) (omega arith) (sym c.number_at.ensures ∙ c.in_default.is) c.loop-step.invariant

pub loop-step-preserved : goal.loop-step-preserved
loop-step-preserved c =
    let before = at_cell c.args.befores.now in
    walk-next before (way_by before c.args.steps c.args.cell) c.loop-step.here c.loop-step.back.items c.push.new.self.items c.in_ok-push.ensures.items
    (c.args.steps - c.loop-step._step) (c.args.steps - (c.loop-step._step + 1)) c.in-Some.before (omega arith) (sym c.number_at.ensures ∙ c.in-Some.is) c.loop-step.invariant
