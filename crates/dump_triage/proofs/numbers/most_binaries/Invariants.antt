use Rattle.std.proofs.Common.{◌≡◌, take, Some}
use Rattle.dump_triage.specs.Ranking.{rows_by}
use Rattle.process_table.specs.Numbers.{binary_bytes}
use Rattle.dump_triage.proofs.numbers.most_binaries.Given as goal

-- the rows of the places so far
abbrev pub invariant-loop-p : goal.invariant-loop-p
invariant-loop-p l = l.rows.items ≡ rows_by (λ item. Some (binary_bytes item.1)) (take l.p l.procs.processes)
