use Rattle.std.proofs.Common.{◌≡◌, ◌-◌, ◌≤◌, true, length, take}
use Rattle.std.specs.List.{list_all}
use Rattle.binary_payloads.specs.Payload.{is_digit_of}
use Rattle.dump_redact.proofs.blanks.blocks_len.Given as goal

abbrev pub invariant-loop-len : goal.invariant-loop-len
invariant-loop-len l = (l.len ≤ length l.chars) × (list_all (is_digit_of l.enc) (take l.len l.chars) ≡ true)

abbrev pub decreases-loop-len : goal.decreases-loop-len
decreases-loop-len l = length l.chars - l.len
