use Rattle.std.proofs.Common.{◌≡◌, false, length, refl, subst, arith}
use Rattle.cell_ways.specs.Inner.Sweeps.{turned, Sweeps}
use Rattle.cell_ways.proofs.Sweeping.{goes-over, sweeps-begun, sweeps-next}
use Rattle.cell_ways.proofs.sweeps.Sweep.go_over.Goals as goal

pub loop-step-init : goal.loop-step-init
loop-step-init g c = sweeps-begun (g.G.CellGraph.graph c.args.graph.now) (record c.args.self.now { changed = false }) c.args.up

pub loop-step-preserved : goal.loop-step-preserved
loop-step-preserved g c =
    let graph = g.G.CellGraph.graph c.args.graph.now in
    let count : c.cells-cells.result ≡ length graph = c.cells-cells.ensures.value in
    sweeps-next graph (record c.args.self.now { changed = false }) c.loop-step.self c.go_on.new.self c.args.up c.loop-step.step (omega (arith, count)) c.loop-step.invariant
    (subst (λ cell. Sweeps graph (λ n. n ≡ cell) c.loop-step.self c.go_on.new.self) (subst (λ size. c.turned.result ≡ turned c.args.up size c.loop-step.step) count c.turned.ensures.value) c.go_on.ensures)

pub returns : goal.returns
returns g c =
    goes-over (g.G.CellGraph.graph c.args.graph.now) c.args.self.now (record c.args.self.now { changed = false }) c.loop-step.self c.args.up c.loop-step.step refl
    (omega (arith, c.cells-cells.ensures.value)) (omega (arith, c.cells-cells.ensures.value)) c.loop-step.invariant
