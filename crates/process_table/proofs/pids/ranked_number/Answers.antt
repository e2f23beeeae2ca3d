use Rattle.std.proofs.Common.{sym, rules}
use Rattle.std.proofs.lemmas.Fn.{always_returns_same}
use Rattle.std.specs.Cmp.Lexicographic.{slice_cmp}
use Rattle.std.specs.Ordering.{nat_cmp}
use Rattle.process_table.specs.Inner.Finding.{pid_at}
use Rattle.process_table.proofs.Ranking.{searched-ok, searched-err}
use Rattle.process_table.proofs.pids.ranked_number.Goals as goal

pub returns-in-Ok-clause-number : goal.returns-in-Ok-clause-number
returns-in-Ok-clause-number c =
    let searched = c.binary_search_by.ensures.position (λ number. slice_cmp nat_cmp (pid_at c.args.places.now number) c.args.pid.now) (always_returns_same _ _ _ (λ a r q k. search rules)) in
    sym (searched-ok c.args.places.now c.args.order.now c.args.pid.now c.binary_search_by.result c.in-Ok.at c.requires c.in-Ok.is searched c.binary_search_by.ensures.bound)

pub returns-in-Err-clause-number : goal.returns-in-Err-clause-number
returns-in-Err-clause-number c =
    let searched = c.binary_search_by.ensures.position (λ number. slice_cmp nat_cmp (pid_at c.args.places.now number) c.args.pid.now) (always_returns_same _ _ _ (λ a r q k. search rules)) in
    sym (searched-err c.args.places.now c.args.order.now c.args.pid.now c.binary_search_by.result _ c.requires c.in-Err.is searched)
