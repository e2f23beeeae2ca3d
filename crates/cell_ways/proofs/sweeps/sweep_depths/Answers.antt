use Rattle.std.proofs.Common.{◌∙◌}
use Rattle.cell_graphs.specs.Frontiers.{is_on}
use Rattle.cell_ways.proofs.Sweeping.{settled-depths, steps-begun}
use Rattle.cell_ways.proofs.sweeps.sweep_depths.Goals as goal

pub loop-turn-init : goal.loop-turn-init
loop-turn-init g c = (
  c.lower_all.ensures.size ∙ c.in_ok-sweep.ensures.size ∙ c.cells.ensures.value,
  steps-begun (g.G.CellGraph.graph c.args.graph.now) (λ n. is_on n c.args.roots.now) c.in_ok-sweep.sweep c.lower_all.new.self c.in_ok-sweep.ensures.none c.lower_all.ensures,
)

pub loop-turn-preserved : goal.loop-turn-preserved
loop-turn-preserved g c = (
  c.go_over.ensures.size ∙ c.loop-turn.invariant.0,
  c.go_over.ensures.steps (λ n. is_on n c.args.roots.now) c.loop-turn.invariant.1,
)

pub returns-then-not-sweep : goal.returns-then-not-sweep
returns-then-not-sweep g c =
    settled-depths (g.G.CellGraph.graph c.args.graph.now) (λ n. is_on n c.args.roots.now) c.requires.within c.go_over.new.self.depths.items
    (c.go_over.ensures.steps (λ n. is_on n c.args.roots.now) c.loop-turn.invariant.1) (c.go_over.ensures.settled c.if-not-sweep.true)
    (c.go_over.ensures.size ∙ c.loop-turn.invariant.0)
