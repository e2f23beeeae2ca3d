use Rattle.std.proofs.Common.{length, sym, ◌∙◌, ap, subst}
use Rattle.std.proofs.lemmas.List.{length-map}
use Rattle.cell_graphs.specs.Graphs.{LeadsWithin}
use Rattle.heap_skeleton.specs.Skeletons.{SkeletonMap}
use Rattle.heap_graph.specs.declared.held.CellPart.{CellPart}
use Rattle.heap_skeleton.proofs.ShownFacts.{cells-shown}
use Rattle.heap_skeleton.proofs.skeleton.Skeleton.leads_are_cells.Goals as goal

pub returns-clause-count : goal.returns-clause-count
returns-clause-count c =
    let s = c.self.inside in
    cells-shown s.own s.parts.items s.kinds.items s.leads.items c.args.self.now c.self.view_is ∙ sym (length-map s.parts.items (λ (p : CellPart). p.address))
    ∙ ap (λ (v : SkeletonMap). length v.addresses) c.self.view_is

pub returns-clause-within : goal.returns-clause-within
returns-clause-within c = subst LeadsWithin (ap (λ (v : SkeletonMap). v.leads) c.self.view_is) c.self.invariant.0.leads_within
