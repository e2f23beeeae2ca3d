use Rattle.std.proofs.Common.{◌≡◌, ◌+◌, suc, subst, sym, arith}
use Rattle.heap_weights.specs.declared.holders.Holder.{Holder}
use Rattle.heap_weights.specs.Holders.{holder_at}
use Rattle.heap_weights.specs.Inner.Tallies.{Gains, HasCounted}
use Rattle.heap_weights.proofs.Tallying.{HasCounted-more}
use Rattle.heap_weights.proofs.weights.tally.Goals as goal

pub loop-n-preserved : goal.loop-n-preserved
loop-n-preserved g c =
    let holders = holder_at c.args.labels.now.holders in
    let next : c.loop-n.n + 1 ≡ suc c.loop-n.n = omega arith in
    subst (λ n. HasCounted (g.G.Weighed.words c.args.graph.now) (g.G.Weighed.binaries c.args.graph.now) holders c.args.parts n c.add.new.self) (sym next)
    (HasCounted-more (g.G.Weighed.words c.args.graph.now) (g.G.Weighed.binaries c.args.graph.now) holders c.args.parts c.loop-n.n c.words.result c.is_binary.result c.loop-n.counted c.add.new.self (omega arith) (omega arith)
    c.words.ensures c.is_binary.ensures c.loop-n.invariant
    (subst (λ (holder : Holder). Gains holder c.words.result c.is_binary.result c.loop-n.counted c.add.new.self) c.holder.ensures c.add.ensures))
