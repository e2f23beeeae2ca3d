use Rattle.std.proofs.Common.{◌≡◌, Some, ap, sym, ◌∙◌}
use Rattle.cell_ways.specs.Ways.{at_cell}
use Rattle.cell_ways.proofs.Sweeping.{sweeps-one}
use Rattle.cell_ways.proofs.sweeps.Sweep.go_on.Goals as goal

pub returns : goal.returns
returns g c =
    let at : at_cell c.args.self.now.depths.items c.args.cell ≡ Some c.in-Some.depth =
    sym (ap (λ depths. at_cell depths c.args.cell) c.deref.ensures.value) ∙ sym c.number_at.ensures ∙ c.in-Some.is in
    sweeps-one (g.G.CellGraph.graph c.args.graph.now) c.args.self.now c.lower_leads.new.self c.args.cell c.in-Some.depth c.lower_leads.ensures at
