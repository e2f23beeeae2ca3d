use Rattle.std.proofs.Common.{◌≡◌, ◌<◌, All, eqb, sym, ◌∙◌, subst}
use Rattle.std.specs.Prelude.{Contains}
use Rattle.std.specs.List.{dedup}
use Rattle.std.specs.List.Sorted.{IsStrictlyIncreasing}
use Rattle.std.proofs.lemmas.List.Filters.{All-dedup, dedup_is}
use Rattle.std.proofs.lemmas.List.Kept.{Contains-dedup_nat}
use Rattle.std.proofs.lemmas.List.Sorted.{All-permutation, Contains-permutation}
use Rattle.std.proofs.lemmas.Map.Keys.{IsStrictlyIncreasing-dedup}
use Rattle.tuple_fronts.proofs.cell_set.CellSet.of.Goals as goal

-- what is left of the sorted numbers
left : (c : goal.After-shrink_to_fit) → c.shrink_to_fit.new.self.items ≡ dedup eqb c.sort_unstable.new.self.items
left c = c.shrink_to_fit.ensures.items ∙ dedup_is eqb c.sort_unstable.new.self.items c.dedup.new.self.items c.dedup.ensures.filtered

pub invariant_of-result : goal.invariant_of-result
invariant_of-result c =
    subst IsStrictlyIncreasing (sym (left c)) (IsStrictlyIncreasing-dedup c.sort_unstable.new.self.items c.sort_unstable.ensures.sorted)

pub returns-clause-all : goal.returns-clause-all
returns-clause-all c = λ n has.
    let sorted = c.sort_unstable.new.self.items in
    subst (λ l. Contains l n) (sym (left c))
    (Contains-dedup_nat sorted n (Contains-permutation c.args.numbers.items sorted n c.sort_unstable.ensures.permutation has))

pub returns-clause-within : goal.returns-clause-within
returns-clause-within c = λ size all.
    let sorted = c.sort_unstable.new.self.items in
    subst (All (λ n. n < size)) (sym (left c))
    (All-dedup eqb (λ n. n < size) sorted (All-permutation (λ n. n < size) c.args.numbers.items sorted c.sort_unstable.ensures.permutation all))

pub returns-clause-ascending : goal.returns-clause-ascending
returns-clause-ascending c =
    subst IsStrictlyIncreasing (sym (left c)) (IsStrictlyIncreasing-dedup c.sort_unstable.new.self.items c.sort_unstable.ensures.sorted)
