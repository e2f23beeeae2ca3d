use Rattle.std.proofs.Common.{sym, ◌∙◌, ap, subst}
use Rattle.cell_graphs.specs.Graphs.{LeadsWithin}
use Rattle.heap_skeleton.specs.Skeletons.{SkeletonMap}
use Rattle.heap_skeleton.proofs.ShownFacts.{cells-shown}
use Rattle.heap_skeleton.proofs.skeleton.Skeleton.cells.Goals as goal

pub returns-clause-graph : goal.returns-clause-graph
returns-clause-graph c =
    let s = c.self.inside in
    c.len.ensures ∙ s.parts.ok.0 ∙ sym (cells-shown s.own s.parts.items s.kinds.items s.leads.items c.args.self.now c.self.view_is)

pub returns-clause-within : goal.returns-clause-within
returns-clause-within c = subst LeadsWithin (ap (λ (v : SkeletonMap). v.leads) c.self.view_is) c.self.invariant.0.leads_within
