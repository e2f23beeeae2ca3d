use Rattle.std.proofs.Common.{rules, ◌≡◌, subst}
use Rattle.std.specs.List.Sorted.{IsNonDecreasingBy}
use Rattle.std.proofs.lemmas.Fn.{always_returns_same}
use Rattle.dump_sections.proofs.PairFacts.{firsts-kept, lowest-kept, places-rise}
use Rattle.dump_sections.proofs.places.sort_pairs.Goals as goal

pub returns-then-is_sorted_by_key-clause-firsts : goal.returns-then-is_sorted_by_key-clause-firsts
returns-then-is_sorted_by_key-clause-firsts g c = λ key.
    lowest-kept g.K.Ord.cmp g.met.K.Ord.total key c.args.pairs.now.items c.sort_unstable.new.self.items
    (subst (IsNonDecreasingBy (λ p. p.1)) c.deref.ensures.value
    (places-rise c.deref.result.now
    (c.if-is_sorted_by_key.ensures.cases (λ pair. pair.1) (always_returns_same _ (λ a r. r ≡ a.0.now.1) _ (λ a r q k. search rules)))))
    c.sort_unstable.ensures.permutation c.sort_unstable.ensures.sorted

pub returns-clause-sorted : goal.returns-clause-sorted
returns-clause-sorted g c =
    c.in_ok-sort_by_key.ensures.sorted (λ pair. pair.0) (always_returns_same _ (λ a r. r ≡ a.0.now.0) _ (λ a r q k. search rules))

pub returns-clause-firsts : goal.returns-clause-firsts
returns-clause-firsts g c = λ key.
    firsts-kept g.K.Ord.cmp g.met.K.Ord.total key c.args.pairs.now.items c.sort_by_key.new.self.items
    (c.in_ok-sort_by_key.ensures.stable (λ pair. pair.0) (always_returns_same _ (λ a r. r ≡ a.0.now.0) _ (λ a r q k. search rules)))
