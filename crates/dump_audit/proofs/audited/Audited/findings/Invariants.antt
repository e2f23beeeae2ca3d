use Rattle.std.proofs.Common.{◌≡◌, take}
use Rattle.std.specs.Prelude.{flat_map}
use Rattle.std.specs.List.{enumerate_from}
use Rattle.dump_audit.specs.Findings.{process_findings}
use Rattle.dump_audit.proofs.audited.Audited.findings.Given as goal

abbrev pub invariant-loop-p : goal.invariant-loop-p
invariant-loop-p l = l.found.items ≡ flat_map (process_findings l.self) (enumerate_from 0 (take l.p l.self.processes))
