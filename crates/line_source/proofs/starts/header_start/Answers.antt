use Rattle.std.proofs.Common.{◌+◌, sym, ◌∙◌, arith}
use Rattle.line_source.proofs.StartPlaces.{Nowhere-more, Nowhere-past, Nowhere-end, found-reads, length-rest}
use Rattle.line_source.proofs.starts.header_start.Goals as goal

pub returns-then-begins_line : goal.returns-then-begins_line
returns-then-begins_line c =
    let begun = c.args.begun in
    let bytes = c.args.bytes.now in
    let from = c.loop-found.from in
    let found = c.in-Some.found in
    let first = c.in-Some.ensures.0 in (
      record {
        low = omega arith;
        high = omega (arith, first.high, length-rest bytes from);
        before = Nowhere-more begun bytes from found c.loop-found.invariant.1 first.before;
      },
      (found-reads bytes from found c.in-Some.ensures.1, sym c.begins_line.ensures ∙ c.if-begins_line.true),
    )

pub loop-found-preserved : goal.loop-found-preserved
loop-found-preserved c =
    let begun = c.args.begun in
    let bytes = c.args.bytes.now in
    let from = c.loop-found.from in
    let found = c.in-Some.found in
    let first = c.in-Some.ensures.0 in (
      omega (arith, first.high, length-rest bytes from),
      Nowhere-past begun bytes (from + found) (Nowhere-more begun bytes from found c.loop-found.invariant.1 first.before)
          (sym c.begins_line.ensures ∙ c.if-begins_line.false),
    )

pub returns : goal.returns
returns c = Nowhere-end c.args.begun c.args.bytes.now c.loop-found.from c.loop-found.invariant.0 c.loop-found.invariant.1 c.in_default.ensures
