use Rattle.std.proofs.Common.{None, sym, ◌∙◌, arith}
use Rattle.cell_graphs.specs.Graphs.{places_at}
use Rattle.cell_graphs.specs.Rounds.{is_to}
use Rattle.dump_io.specs.Laws.Lists.{position-at}
use Rattle.heap_ways.proofs.StepFacts.{none-all, none-next}
use Rattle.heap_ways.proofs.steps.place_to.Goals as goal

pub returns-then-is_to : goal.returns-then-is_to
returns-then-is_to c =
    sym (position-at (is_to c.args.to) (places_at c.args.skeleton.now.leads c.args.from) None c.loop-place.place c.lead.result c.loop-place.invariant c.lead.ensures
    (sym c.is_to.ensures ∙ c.if-is_to.true))

pub loop-place-preserved : goal.loop-place-preserved
loop-place-preserved c =
    none-next c.args.skeleton.now.leads c.args.from c.args.to c.loop-place.place c.lead.result c.loop-place.invariant c.lead.ensures (sym c.is_to.ensures ∙ c.if-is_to.false)

pub returns : goal.returns
returns c = none-all c.args.skeleton.now.leads c.args.from c.args.to c.loop-place.place c.loop-place.invariant (omega arith)
