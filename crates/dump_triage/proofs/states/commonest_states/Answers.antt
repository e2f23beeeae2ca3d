use Rattle.std.proofs.Common.{arith}
use Rattle.std.proofs.lemmas.List.{length-map}
use Rattle.process_table.specs.Processes.{process_at}
use Rattle.dump_triage.specs.Triage.{count_at_first, process_state_text, state_texts}
use Rattle.dump_triage.proofs.RankFacts.{largest-all, rows-more}
use Rattle.dump_triage.proofs.StateFacts.{state-there}
use Rattle.dump_triage.proofs.states.commonest_states.Goals as goal

pub loop-p-preserved : goal.loop-p-preserved
loop-p-preserved c =
    let processes = c.args.procs.now.processes in
    let p = c.loop-p.p in
    record {
      rows =
          rows-more (count_at_first (state_texts processes)) (state_texts processes) p (process_state_text (process_at processes p)) _ _ _
          (state-there processes p (omega arith)) c.loop-p.invariant.rows c.take_count.ensures.count c.in_ok-push_row.ensures;
      left = c.take_count.ensures.left;
    }

pub returns : goal.returns
returns c =
    let processes = c.args.procs.now.processes in
    largest-all (count_at_first (state_texts processes)) (state_texts processes) c.loop-p.p c.args.most c.loop-p.rows.items c.first_rows.result
    (omega (arith, length-map processes process_state_text)) c.loop-p.invariant.rows c.first_rows.ensures
