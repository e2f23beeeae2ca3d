use Rattle.std.proofs.Common.{◌≡◌, [], length, map, Some, slice_index_or, sym, subst, ◌∙◌, ap, arith}
use Rattle.std.specs.Prelude.{slice_range}
use Rattle.heap_graph.specs.Leads.{cell_for}
use Rattle.heap_skeleton.specs.Inner.Shown.{leads_from, AreLaid}
use Rattle.heap_skeleton.specs.Skeletons.{SkeletonMap}
use Rattle.heap_skeleton.proofs.ShownFacts.{cells-shown, lead-at, starts-count}
use Rattle.heap_skeleton.proofs.skeleton.SkeletonCellGraph.lead.Goals as goal

pub span_of-from-requires : goal.span_of-from-requires
span_of-from-requires c =
    let s = c.self.inside in
    let count = cells-shown s.own s.parts.items s.kinds.items s.leads.items c.args.self.now c.self.view_is in
    omega (arith, c.requires.cell, count, starts-count s.parts.items s.starts.items c.self.invariant.1, ap length c.deref.ensures.value)

pub returns : goal.returns
returns c =
    let s = c.self.inside in
    let span = c.span_of-from.result in
    let laid : AreLaid s.parts.items (length c.deref-2.result.now) = subst (λ l. AreLaid s.parts.items (length l)) (sym c.deref-2.ensures.value) c.self.invariant.0.laid in
    let is = c.span_of-from.ensures s.parts.items (c.deref.ensures.value ∙ c.self.invariant.1) laid in
    let graph : leads_from s.parts.items c.deref-2.result.now ≡ c.args.self.now.leads =
    ap (leads_from s.parts.items) c.deref-2.ensures.value ∙ ap (λ (v : SkeletonMap). v.leads) c.self.view_is in
    let places =
    ap (λ g. slice_index_or g c.args.cell []) (sym graph) ∙ is.2 ∙ ap (λ l. map cell_for (slice_range l span.0 span.1)) c.deref-2.ensures.value in
    lead-at c.self.inside.leads.items span.0 span.1 c.args.place c.index.result.now (slice_index_or c.args.self.now.leads c.args.cell []) places c.requires.place c.index.ensures
    ∙ ap Some (sym c.cell_for.ensures)
