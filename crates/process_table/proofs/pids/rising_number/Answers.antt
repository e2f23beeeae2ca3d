use Rattle.std.proofs.Common.{sym, rules}
use Rattle.std.proofs.lemmas.Fn.{always_returns_same}
use Rattle.process_table.specs.declared.pids.PidPlace.{PidPlace}
use Rattle.process_table.specs.Inner.Finding.{rising_cmp}
use Rattle.process_table.proofs.Rising.{rising-ok, rising-err}
use Rattle.process_table.proofs.pids.rising_number.Goals as goal

pub returns-in-Ok-clause-number : goal.returns-in-Ok-clause-number
returns-in-Ok-clause-number c =
    let searched = c.binary_search_by.ensures.position (λ (place : PidPlace). rising_cmp place.pid.items c.args.pid.now) (always_returns_same _ _ _ (λ a r q k. search rules)) in
    sym (rising-ok c.args.places.now c.args.pid.now c.binary_search_by.result c.in-Ok.number c.requires.own c.in-Ok.is searched c.binary_search_by.ensures.bound)

pub returns-in-Err-clause-number : goal.returns-in-Err-clause-number
returns-in-Err-clause-number c =
    let searched = c.binary_search_by.ensures.position (λ (place : PidPlace). rising_cmp place.pid.items c.args.pid.now) (always_returns_same _ _ _ (λ a r q k. search rules)) in
    sym (rising-err c.args.places.now c.args.pid.now c.binary_search_by.result _ c.requires.rising c.in-Err.is searched)
