use Rattle.std.proofs.Common.{◌≡◌, take}
use Rattle.std.specs.Prelude.{map}
use Rattle.dump_audit.specs.Findings.{is_judged}
use Rattle.dump_audit.proofs.auditing.all_judged.Given as goal

abbrev pub invariant-loop-p : goal.invariant-loop-p
invariant-loop-p l = l.judged.items ≡ map (is_judged l.index) (take l.p l.procs.processes)
