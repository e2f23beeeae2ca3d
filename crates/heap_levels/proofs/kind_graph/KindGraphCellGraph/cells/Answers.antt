use Rattle.std.proofs.Common.{ℕ, ◌<◌, length, map, subst}
use Rattle.std.specs.Prelude.{All}
use Rattle.cell_graphs.specs.Graphs.{LeadsWithin}
use Rattle.cell_parts.specs.Parts.{CellPart, CellParts}
use Rattle.heap_levels.specs.Inner.KindGraphs.{KindMap, kind_graph}
use Rattle.heap_levels.proofs.KindFacts.{all-kinds, kinds-within}
use Rattle.heap_levels.proofs.kind_graph.KindGraphCellGraph.cells.Goals as goal

pub returns-clause-within : goal.returns-clause-within
returns-clause-within c =
    let g = c.self.inside in
    let n = length g.skeleton.now.leads in
    let m : KindMap = record { heap = g.skeleton.now; stack = g.stack.now.parts; dict = g.dict.now.parts; mail = g.mail.now.parts } in
    let below : CellParts → ℕ → Type 0 = λ p k. All (λ cell. cell < k) (map (λ (part : CellPart). part.cell) p.parts) in
    subst (λ v. LeadsWithin (kind_graph v)) c.self.view_is
    (kinds-within m c.cells.ensures.within
    (all-kinds m n (subst (below g.stack.now) c.self.invariant.0.leads c.parts_are_cells.ensures) (subst (below g.dict.now) c.self.invariant.1.leads c.parts_are_cells-2.ensures)
    (subst (below g.mail.now) c.self.invariant.2.leads c.parts_are_cells-3.ensures)))
