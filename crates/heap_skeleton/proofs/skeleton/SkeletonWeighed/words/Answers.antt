use Rattle.std.proofs.Common.{◌∙◌, ap, arith}
use Rattle.heap_graph.specs.Words.{words_at}
use Rattle.heap_skeleton.specs.Skeletons.{SkeletonMap}
use Rattle.heap_skeleton.proofs.ShownFacts.{cells-shown, words-part}
use Rattle.heap_skeleton.proofs.skeleton.SkeletonWeighed.words.Goals as goal

pub index-requires : goal.index-requires
index-requires c =
    let s = c.self.inside in
    let count = cells-shown s.own s.parts.items s.kinds.items s.leads.items c.args.self.now c.self.view_is in
    omega (arith, c.requires, count, s.parts.ok.0)

pub returns : goal.returns
returns c =
    let s = c.self.inside in
    let parts = s.parts.items in
    let count = cells-shown s.own parts s.kinds.items s.leads.items c.args.self.now c.self.view_is in
    c.from.ensures ∙ words-part parts c.args.cell c.index.result.now (omega (arith, c.requires, count)) c.index.ensures
    ∙ ap (λ (v : SkeletonMap). words_at v.words c.args.cell) c.self.view_is
