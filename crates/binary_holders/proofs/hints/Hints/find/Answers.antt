use Rattle.std.proofs.Common.{◌<◌, length, sym, ◌∙◌, ap, arith}
use Rattle.std.proofs.lemmas.List.{get_or_read}
use Rattle.binary_holders.specs.declared.targets.Binary.{Binary}
use Rattle.binary_holders.proofs.CountFacts.{at-number, no_binary}
use Rattle.binary_holders.proofs.hints.Hints.find.Goals as goal

pub returns-then-binary-number-clause-number : goal.returns-then-binary-number-clause-number
returns-then-binary-number-clause-number c =
    let binaries = c.args.binaries.now in
    let hint = c.in_ok-hint.field-0.now in
    let found = c.in_ok-binary.ensures.lookup in
    let inside : hint < length binaries = omega (arith, found) in
    at-number binaries hint inside
    ∙ ap (λ (b : Binary). b.number) (sym (get_or_read binaries hint c.in_ok-binary.binary.now inside found.1 no_binary))
    ∙ c.if-binary-number.true
