use Rattle.std.proofs.Common.{◌+◌, sym, ◌∙◌, arith}
use Rattle.std.proofs.lemmas.Bool.{false≢true}
use Rattle.binary_holders.proofs.MarkFacts.{no-mark, next-mark, none-passed}
use Rattle.binary_holders.proofs.lines.find_reference.Goals as goal

pub returns-in_err-at : goal.returns-in_err-at
returns-in_err-at c =
    let before = c.loop-from.invariant in
    rw c.from_residual.ensures (no-mark c.args.bytes.now c.loop-from.from before.within before.none c.in_err-at.ensures)

pub returns-then-is_reference : goal.returns-then-is_reference
returns-then-is_reference c =
    let before = c.loop-from.invariant in
    let found = next-mark c.args.bytes.now c.loop-from.from before.within before.none c.in_ok-at.field-0 c.in_ok-at.ensures.0 c.in_ok-at.ensures.1 in
    let room = found.1.fits in (
      record { low = omega arith; high = omega (arith, room); before = found.0 },
      c.is_reference.ensures.0 c.if-is_reference.true,
    )

pub loop-from-preserved : goal.loop-from-preserved
loop-from-preserved c =
    let before = c.loop-from.invariant in
    let found = next-mark c.args.bytes.now c.loop-from.from before.within before.none c.in_ok-at.field-0 c.in_ok-at.ensures.0 c.in_ok-at.ensures.1 in
    let room = found.1.fits in
    record {
      within = omega (arith, room);
      none = none-passed c.args.bytes.now (c.loop-from.from + c.in_ok-at.field-0) found.1 found.0 (λ is. false≢true (sym c.if-is_reference.false ∙ c.is_reference.ensures.1 is));
    }

pub returns : goal.returns
returns c = λ k low high. c.loop-from.invariant.none k low (omega (arith, high, c.loop-from-test.false))
