use Rattle.std.proofs.Common.{◌≡◌, take}
use Rattle.std.specs.List.{list_all}
use Rattle.binary_payloads.specs.Payload.{is_digit_of}
use Rattle.binary_payloads.proofs.payloads.are_digits.Given as goal

-- whether those so far are
abbrev pub invariant-loop-c : goal.invariant-loop-c
invariant-loop-c l = l.all ≡ list_all (is_digit_of l.enc) (take l.c-index l.chars)
