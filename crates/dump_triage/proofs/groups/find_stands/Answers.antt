use Rattle.std.proofs.Common.{◌<◌, [], ◌∷◌, ◌++◌, length, sym, ◌∙◌, ap, arith}
use Rattle.process_table.specs.Laws.{process_at-there}
use Rattle.process_table.specs.Processes.{process_at}
use Rattle.dump_triage.specs.Triage.{stand_items}
use Rattle.std.proofs.Common.{take}
use Rattle.dump_triage.proofs.GroupFacts.{stands-more}
use Rattle.dump_triage.proofs.groups.find_stands.Goals as goal

pub loop-p-preserved : goal.loop-p-preserved
loop-p-preserved c =
    let processes = c.args.procs.now.processes in
    let stands = c.args.stands.now in
    let p = c.loop-p.p in
    let inside : p < length processes = omega arith in
    c.in_ok-push.ensures.items
    ∙ ap (λ l. l ++ c.in_ok-stand.stand ∷ []) c.loop-p.invariant
    ∙ ap (λ s. stand_items (take p processes) stands ++ s ∷ []) c.in_ok-stand.ensures
    ∙ sym (stands-more processes stands p (process_at processes p) (process_at-there processes p inside))
