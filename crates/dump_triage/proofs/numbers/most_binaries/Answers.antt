use Rattle.std.proofs.Common.{Some, ap, arith}
use Rattle.process_table.specs.Shown.{shown_process}
use Rattle.process_table.specs.Numbers.{binary_bytes}
use Rattle.dump_triage.proofs.RankFacts.{largest-all, rows-more}
use Rattle.dump_triage.proofs.numbers.most_binaries.Goals as goal

pub loop-p-preserved : goal.loop-p-preserved
loop-p-preserved c =
    rows-more (λ item. Some (binary_bytes item.1)) c.args.procs.now.processes c.loop-p.p (shown_process c.at.result) _ _ _ c.at.ensures c.loop-p.invariant
    (ap Some c.binary_bytes.ensures) c.in_ok-push_sum.ensures

pub returns : goal.returns
returns c = largest-all (λ item. Some (binary_bytes item.1)) c.args.procs.now.processes c.loop-p.p c.args.most c.loop-p.rows.items c.first_rows.result (omega arith) c.loop-p.invariant c.first_rows.ensures
