use Rattle.std.proofs.Common.{rules}
use Rattle.std.proofs.lemmas.Result.{on_ok_weaker}
use Rattle.text_groups.proofs.SortFacts.{most-from_sort}
use Rattle.text_groups.proofs.sorting.sort_most_first.Goals as goal

pub returns-clause-sorted : goal.returns-clause-sorted
returns-clause-sorted g c =
    on_ok_weaker c.sort_by.result
    (λ up.
    most-from_sort g.T.Measured.size c.args.rows.now.items c.sort_by.new.self.items up c.sort_by.ensures.stable
    (λ a r f' call. search rules))
    c.sort_by.ensures.sorted
