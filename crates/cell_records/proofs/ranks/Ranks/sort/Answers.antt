use Rattle.std.proofs.Common.{◌<◌, ℕ, ◌^◌, subst}
use Rattle.std.proofs.lemmas.List.Sorted.{IsPermutation-map, IsNonDecreasingBy-from_sort, All-permutation}
use Rattle.cell_records.specs.Inner.Ranks.{pair_at, AreNumbered}
use Rattle.cell_records.proofs.OrderFacts.{pairs-ranked}
use Rattle.cell_records.proofs.RankFacts.{narrow-ranked}
use Rattle.cell_records.proofs.ranks.Ranks.sort.Goals as goal
use Rattle.cell_records.proofs.ranks.Ranks.sort.Goals.{in-Narrow, in-Wide}

pub invariant_of-self : goal.invariant_of-self
invariant_of-self c =
    elim c.match-self.branch [
      | in-Narrow w ↦ rw w.self-inside-is (c.self.invariant.0, tt)
      | in-Wide w ↦ rw w.self-inside-is (
        c.self.invariant.0,
        All-permutation (λ (p : ℕ × ℕ). p.1 < 2 ^ 32) w.in-Wide.pairs.items w.sort_unstable-in-Wide.new.self.items
            w.sort_unstable-in-Wide.ensures.permutation (subst AreNumbered w.in-Wide.is c.self.invariant.1),
      )
    ]

pub returns-clause-permutation : goal.returns-clause-permutation
returns-clause-permutation c =
    elim c.match-self.branch [
      | in-Narrow w ↦ rw (w.self-inside-is, ← c.self.view_is, w.in-Narrow.is)
          (IsPermutation-map (pair_at c.self.inside.base c.self.inside.bits) w.in-Narrow.ranks.items w.sort_unstable.new.self.items w.sort_unstable.ensures.permutation)
      | in-Wide w ↦ rw (w.self-inside-is, ← c.self.view_is, w.in-Wide.is) w.sort_unstable-in-Wide.ensures.permutation
    ]

pub returns-clause-sorted : goal.returns-clause-sorted
returns-clause-sorted c =
    elim c.match-self.branch [
      | in-Narrow w ↦ rw w.self-inside-is
          (narrow-ranked c.self.inside.base c.self.inside.bits w.sort_unstable.new.self.items c.self.invariant.0.few (IsNonDecreasingBy-from_sort (λ (n : ℕ). n) w.sort_unstable.new.self.items w.sort_unstable.ensures.sorted))
      | in-Wide w ↦ rw w.self-inside-is (pairs-ranked w.sort_unstable-in-Wide.new.self.items
          (All-permutation (λ (p : ℕ × ℕ). p.1 < 2 ^ 32) w.in-Wide.pairs.items w.sort_unstable-in-Wide.new.self.items
          w.sort_unstable-in-Wide.ensures.permutation (subst AreNumbered w.in-Wide.is c.self.invariant.1)) w.sort_unstable-in-Wide.ensures.sorted)
    ]
