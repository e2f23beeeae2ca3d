use Rattle.std.proofs.Common.{◌≡◌, ◌++◌, take}
use Rattle.dump_audit.specs.Findings.{entry_findings}
use Rattle.dump_audit.specs.Inner.Audited.{entries_in, held}
use Rattle.dump_audit.proofs.audited.Audited.add_entries.Given as goal

abbrev pub invariant-loop-number : goal.invariant-loop-number
invariant-loop-number l =
    l.findings.items
    ≡ l.initial.findings.items ++ entry_findings l.self l.holder.p (held l.self l.holder) (take l.number (entries_in (held l.self l.holder)))
