use Rattle.std.proofs.Common.{ℕ, ◌<◌, sym, subst, arith, ◌^◌}
use Rattle.std.specs.Prelude.{All}
use Rattle.std.proofs.lemmas.List.Elements.{All-push}
use Rattle.cell_records.proofs.RankFacts.{narrow-numbered}
use Rattle.cell_records.proofs.ranks.Ranks.push.Goals as goal

pub invariant_of-self-in-None : goal.invariant_of-self-in-None
invariant_of-self-in-None c = (
  c.self.invariant.0,
  subst (All (λ (p : ℕ × ℕ). p.1 < 2 ^ 32)) (sym c.in_ok-pairs-in-None.ensures)
      (All-push (λ (p : ℕ × ℕ). p.1 < 2 ^ 32) _ (c.args.address, c.args.number) (narrow-numbered c.self.inside.base c.self.inside.bits _ c.self.invariant.0.few) (omega arith)),
)
