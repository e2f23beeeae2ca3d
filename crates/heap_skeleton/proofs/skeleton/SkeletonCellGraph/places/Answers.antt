use Rattle.std.proofs.Common.{length, ap, arith}
use Rattle.heap_skeleton.proofs.ShownFacts.{cells-shown, starts-count}
use Rattle.heap_skeleton.proofs.skeleton.SkeletonCellGraph.places.Goals as goal

pub span_of-from-requires : goal.span_of-from-requires
span_of-from-requires c =
    let s = c.self.inside in
    let count = cells-shown s.own s.parts.items s.kinds.items s.leads.items c.args.self.now c.self.view_is in
    omega (arith, c.requires, count, starts-count s.parts.items s.starts.items c.self.invariant.1, ap length c.deref.ensures.value)
