use Rattle.std.proofs.Common.{rules, ◌∙◌, ap}
use Rattle.std.proofs.lemmas.Result.{on_ok_weaker}
use Rattle.std.proofs.lemmas.List.Sorted.{IsPermutation-trans}
use Rattle.text_groups.specs.Sorting.{most_first}
use Rattle.text_groups.proofs.SortFacts.{most-from_sort}
use Rattle.text_groups.proofs.sorting.sort_most_first_twice.Goals as goal

pub returns-clause-sorted : goal.returns-clause-sorted
returns-clause-sorted g c =
    let second = most-from_sort g.T.MeasuredTwice.second c.args.rows.now.items c.sort_by.new.self.items c.in_ok-sort_by.ensures.sorted c.sort_by.ensures.stable (λ a r f' call. search rules) in
    on_ok_weaker c.sort_by-2.result
    (λ up.
    most-from_sort g.T.MeasuredTwice.first c.sort_by.new.self.items c.sort_by-2.new.self.items up c.sort_by-2.ensures.stable (λ a r f' call. search rules)
    ∙ ap (most_first g.T.MeasuredTwice.first) second)
    c.sort_by-2.ensures.sorted

pub returns-clause-permutation : goal.returns-clause-permutation
returns-clause-permutation g c =
    IsPermutation-trans c.args.rows.now.items c.sort_by.new.self.items c.sort_by-2.new.self.items c.sort_by.ensures.permutation c.sort_by-2.ensures.permutation
