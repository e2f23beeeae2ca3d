use Rattle.std.proofs.Common.{◌≡◌, drop}
use Rattle.dump_sections.specs.Index.{sections_in}
use Rattle.dump_redact.specs.Refusals.{large_heap}
use Rattle.dump_redact.proofs.redacting.large.Given as goal

-- those that are left decide
abbrev pub invariant-loop-i : goal.invariant-loop-i
invariant-loop-i l = large_heap l.limits.section (drop l.i (sections_in l.index)) ≡ large_heap l.limits.section (sections_in l.index)
