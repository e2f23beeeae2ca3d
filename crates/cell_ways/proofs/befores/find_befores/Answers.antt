use Rattle.std.proofs.Common.{◌≡◌, ◌+◌, length, ap, sym, subst, arith}
use Rattle.std.proofs.lemmas.List.{with_items_is}
use Rattle.cell_ways.specs.Inner.Search.{AreNoted}
use Rattle.cell_ways.proofs.Noting.{noted-next}
use Rattle.cell_ways.proofs.befores.find_befores.Goals as goal

pub loop-cell-preserved : goal.loop-cell-preserved
loop-cell-preserved g c =
    let graph = g.G.CellGraph.graph c.args.graph.now in
    let old = c.loop-cell.befores in
    let new = c.note_leads.new.befores in
    let size : length new ≡ old.len = omega (arith, c.note_leads.ensures.size, ap length c.deref_mut.ensures.value, old.ok.0) in
    subst (AreNoted graph c.args.depths.now (c.loop-cell.cell + 1)) (sym (with_items_is old new size))
    (noted-next graph c.args.depths.now c.loop-cell.cell old.items c.deref_mut.result.now new c.loop-cell.invariant c.deref_mut.ensures.value c.note_leads.ensures)
