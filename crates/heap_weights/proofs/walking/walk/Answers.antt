use Rattle.std.proofs.Common.{◌+◌, ◌∙◌, ap, subst}
use Rattle.heap_weights.specs.Holders.{held_if, holder_at}
use Rattle.heap_weights.specs.Parts.{reached_at}
use Rattle.heap_weights.specs.Inner.Labels.{IsRested}
use Rattle.heap_weights.proofs.Resting.{IsRested-begin, IsRested-more, held-exact, looked-root}
use Rattle.heap_weights.proofs.walking.walk.Goals as goal

pub spread-requires-clause-looked : goal.spread-requires-clause-looked
spread-requires-clause-looked g c =
    let graph = g.G.CellGraph.graph c.args.graph.now in
    let begun = c.begin.new.self in
    let rested = IsRested-begin graph c.args.part c.args.labels.now begun c.requires.rested c.begin.ensures.holders c.begin.ensures.part c.begin.ensures.reserved c.begin.ensures.waiting in
    looked-root graph c.requires.within begun rested c.add.new.self _ c.add.ensures

pub returns-clause-rested : goal.returns-clause-rested
returns-clause-rested g c =
    let graph = g.G.CellGraph.graph c.args.graph.now in
    let begun = c.begin.new.self in
    let rested = IsRested-begin graph c.args.part c.args.labels.now begun c.requires.rested c.begin.ensures.holders c.begin.ensures.part c.begin.ensures.reserved c.begin.ensures.waiting in
    subst (λ part. IsRested graph (part + 1) c.spread.new.labels) c.begin.ensures.part
    (IsRested-more graph c.requires.within begun rested c.args.root c.add.new.self c.spread.new.labels c.add.ensures c.spread.ensures.walks c.spread.ensures.settled c.spread.ensures.reached)

pub returns-clause-holders : goal.returns-clause-holders
returns-clause-holders g c = λ n.
    let graph = g.G.CellGraph.graph c.args.graph.now in
    let begun = c.begin.new.self in
    let rested = IsRested-begin graph c.args.part c.args.labels.now begun c.requires.rested c.begin.ensures.holders c.begin.ensures.part c.begin.ensures.reserved c.begin.ensures.waiting in
    held-exact graph c.requires.within begun rested c.args.root c.add.new.self c.spread.new.labels c.add.ensures c.spread.ensures.walks c.spread.ensures.settled c.spread.ensures.reached n
    ∙ ap (λ part. held_if (reached_at graph c.args.root n) part (holder_at begun.holders n)) c.begin.ensures.part
    ∙ ap (λ holders. held_if (reached_at graph c.args.root n) c.args.part (holder_at holders n)) c.begin.ensures.holders
