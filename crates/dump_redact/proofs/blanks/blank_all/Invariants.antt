use Rattle.std.proofs.Common.{◌≡◌, ◌++◌, take, drop, map}
use Rattle.dump_redact.specs.Redacted.{blank}
use Rattle.dump_redact.proofs.blanks.blank_all.Given as goal

abbrev pub invariant-loop-c : goal.invariant-loop-c
invariant-loop-c l = l.chars ≡ map (blank l.enc) (take l.c-index l.initial.chars) ++ drop l.c-index l.initial.chars
