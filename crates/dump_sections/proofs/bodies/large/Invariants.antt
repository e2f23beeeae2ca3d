use Rattle.std.proofs.Common.{◌≡◌, drop}
use Rattle.dump_sections.specs.Loading.{sections_at, large_fault}
use Rattle.dump_sections.proofs.bodies.large.Given as goal

-- those that are left decide
abbrev pub invariant-loop-i : goal.invariant-loop-i
invariant-loop-i l = large_fault l.limits.section (sections_at l.index (drop l.i-index l.places)) ≡ large_fault l.limits.section (sections_at l.index l.places)
