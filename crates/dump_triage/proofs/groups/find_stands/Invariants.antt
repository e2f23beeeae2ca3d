use Rattle.std.proofs.Common.{◌≡◌, take}
use Rattle.dump_triage.specs.Triage.{stand_items}
use Rattle.dump_triage.proofs.groups.find_stands.Given as goal

-- the processes so far
abbrev pub invariant-loop-p : goal.invariant-loop-p
invariant-loop-p l = l.all.items ≡ stand_items (take l.p l.procs.processes) l.stands
