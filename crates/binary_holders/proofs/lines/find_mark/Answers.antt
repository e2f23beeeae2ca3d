use Rattle.std.proofs.Common.{sym, subst, arith}
use Rattle.memchr.specs.Find.{FindsNeedle}
use Rattle.binary_holders.proofs.MarkFacts.{binary_mark, marks-none, mark-at}
use Rattle.binary_holders.proofs.lines.find_mark.Goals as goal

pub returns-in_err-place : goal.returns-in_err-place
returns-in_err-place c = subst (FindsNeedle c.args.bytes.now binary_mark 0) (sym c.from_residual.ensures) (marks-none c.args.bytes.now c.in_err-place.ensures)

pub returns-then-is_marked : goal.returns-then-is_marked
returns-then-is_marked c =
    let found = c.in_ok-place.ensures in
    mark-at c.args.bytes.now c.in_ok-place.place (omega arith) found.0 found.1 (c.is_marked.ensures c.if-is_marked.true)
