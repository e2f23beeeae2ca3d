use Rattle.std.proofs.Common.{◌≡◌, filter, take}
use Rattle.dump_triage.specs.Triage.{has_use}
use Rattle.dump_triage.proofs.groups.used.Given as goal

-- those of the groups so far
abbrev pub invariant-loop-group : goal.invariant-loop-group
invariant-loop-group l = l.used.items ≡ filter (has_use l.ports.rows) (take l.group-index l.groups)
