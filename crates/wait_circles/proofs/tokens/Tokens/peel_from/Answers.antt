use Rattle.std.proofs.Common.{arith, length, ap, ◌+◌, ◌<◌, ◌∙◌}
use Rattle.std.proofs.lemmas.List.{get_or_read}
use Rattle.wait_circles.proofs.PeelFacts.{upto-end}
use Rattle.wait_circles.proofs.tokens.Tokens.peel_from.Goals as goal

pub returns-clause-upto : goal.returns-clause-upto
returns-clause-upto c =
    let t = c.loop-self.self in
    let p = c.loop-self.invariant.peeling.peeling in
    let v = c.loop-self.v in
    let here : v < length t.incoming.items = omega (arith, c.loop-self.invariant.within, ap length c.loop-self.invariant.leads, p.enough, p.counts_size) in
    upto-end t.leads.items t.left.items t.counts.items t.incoming.items p (c.args.from + 1) v c.loop-self.invariant.upto
    (λ none. absurd (c.loop-self-test.false (get_or_read t.incoming.items v c.index.result.now here c.index.ensures 0 ∙ p.come_in v here ∙ none)))
