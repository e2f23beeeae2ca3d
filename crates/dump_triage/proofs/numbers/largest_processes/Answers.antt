use Rattle.std.proofs.Common.{arith}
use Rattle.process_table.specs.Shown.{shown_process}
use Rattle.process_table.specs.Numbers.{stated_number}
use Rattle.dump_triage.proofs.RankFacts.{largest-all, rows-more}
use Rattle.dump_triage.proofs.numbers.largest_processes.Goals as goal

pub loop-p-preserved : goal.loop-p-preserved
loop-p-preserved c =
    rows-more (λ item. stated_number item.1.memory) c.args.procs.now.processes c.loop-p.p (shown_process c.at-process.result) _ _ _ c.at-process.ensures c.loop-p.invariant
    c.stated_number.ensures c.in_ok-push_row.ensures

pub returns : goal.returns
returns c = largest-all (λ item. stated_number item.1.memory) c.args.procs.now.processes c.loop-p.p c.args.most c.loop-p.rows.items c.first_rows.result (omega arith) c.loop-p.invariant c.first_rows.ensures
