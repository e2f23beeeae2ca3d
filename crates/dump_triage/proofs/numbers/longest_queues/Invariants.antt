use Rattle.std.proofs.Common.{◌≡◌, take}
use Rattle.dump_triage.specs.Ranking.{rows_by}
use Rattle.process_table.specs.Numbers.{stated_number}
use Rattle.dump_triage.proofs.numbers.longest_queues.Given as goal

-- the rows of the places so far
abbrev pub invariant-loop-p : goal.invariant-loop-p
invariant-loop-p l = l.rows.items ≡ rows_by (λ item. stated_number item.1.queue) (take l.p l.procs.processes)
