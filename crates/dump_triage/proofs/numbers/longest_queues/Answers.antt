use Rattle.std.proofs.Common.{◌∙◌, ap, arith}
use Rattle.process_table.specs.Processes.{process_at}
use Rattle.process_table.specs.Numbers.{stated_number}
use Rattle.process_table.specs.Laws.{process_at-there}
use Rattle.dump_triage.proofs.RankFacts.{largest-all, rows-more}
use Rattle.dump_triage.proofs.numbers.longest_queues.Goals as goal

pub loop-p-preserved : goal.loop-p-preserved
loop-p-preserved c =
    let processes = c.args.procs.now.processes in
    let p = c.loop-p.p in
    rows-more (λ item. stated_number item.1.queue) processes p (process_at processes p) _ _ _ (process_at-there processes p (omega arith)) c.loop-p.invariant
    (c.stated_number.ensures ∙ ap stated_number c.queue.ensures) c.in_ok-push_row.ensures

pub returns : goal.returns
returns c = largest-all (λ item. stated_number item.1.queue) c.args.procs.now.processes c.loop-p.p c.args.most c.loop-p.rows.items c.first_rows.result (omega arith) c.loop-p.invariant c.first_rows.ensures
