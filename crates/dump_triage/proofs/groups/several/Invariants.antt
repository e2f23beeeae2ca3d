use Rattle.std.proofs.Common.{◌≡◌, filter, take}
use Rattle.dump_triage.specs.Triage.{is_several}
use Rattle.dump_triage.proofs.groups.several.Given as goal

-- those of the groups so far
abbrev pub invariant-loop-group : goal.invariant-loop-group
invariant-loop-group l = l.several.items ≡ filter is_several (take l.group-index l.groups)
