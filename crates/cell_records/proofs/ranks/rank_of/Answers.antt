use Rattle.std.proofs.Common.{◌≡◌, ℕ, ◌+◌, ◌∙◌, ap₂, arith}
use Rattle.cell_records.proofs.RankFacts.{fits}
use Rattle.cell_records.proofs.ranks.rank_of.Goals as goal

pub returns-then-low-bits-eq0 : goal.returns-then-low-bits-eq0
returns-then-low-bits-eq0 c =
    let address : c.args.base + c.in_ok-above.above ≡ c.args.address = omega (arith, c.in_ok-above.ensures) in
    fits c.args.base c.args.bits c.in_ok-above.above c.from-low.result (omega (arith, c.if-above-reach.true, c.reach.ensures)) c.if-low-bits-eq0.true
    ∙ ap₂ (λ (a n : ℕ). (a, n)) address c.from-low.ensures
