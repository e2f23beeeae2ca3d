use Rattle.std.proofs.Common.{length, refl, sym, ◌∙◌, ap, arith, slice_get}
use Rattle.std.proofs.lemmas.Option.{slice_get_read}
use Rattle.heap_skeleton.specs.Skeletons.{SkeletonMap}
use Rattle.heap_skeleton.proofs.ShownFacts.{cells-shown}
use Rattle.heap_skeleton.proofs.skeleton.Skeleton.kind.Goals as goal

pub index-requires : goal.index-requires
index-requires c =
    let s = c.self.inside in
    let count = cells-shown s.own s.parts.items s.kinds.items s.leads.items c.args.self.now c.self.view_is in
    omega (arith, c.requires, count, c.self.invariant.0.kinds_are, s.kinds.ok.0)

pub returns : goal.returns
returns c =
    let s = c.self.inside in
    let count = cells-shown s.own s.parts.items s.kinds.items s.leads.items c.args.self.now c.self.view_is in
    sym (ap (λ (v : SkeletonMap). slice_get v.kinds c.args.cell) c.self.view_is)
    ∙ slice_get_read s.kinds.items (length s.kinds.items) c.args.cell c.index.result.now refl (omega (arith, c.requires, count, c.self.invariant.0.kinds_are)) c.index.ensures
