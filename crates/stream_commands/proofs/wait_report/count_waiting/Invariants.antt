use Rattle.std.proofs.Common.{◌≡◌, is_some, take}
use Rattle.std.specs.List.{count_by}
use Rattle.stream_commands.proofs.wait_report.count_waiting.Given as goal

-- so many of the processes so far wait
abbrev pub invariant-loop-p : goal.invariant-loop-p
invariant-loop-p l = l.waiting ≡ count_by (λ w. is_some w.target) (take l.p l.waiters)
