use Rattle.std.proofs.Common.{length, sym, ap, arith}
use Rattle.etf_terms.proofs.Heights.{depth-few}
use Rattle.etf_terms.proofs.Whole.{term-behind}
use Rattle.etf_terms.proofs.ext.Ext.judged.Goals as goal

pub invariant_of-result : goal.invariant_of-result
invariant_of-result c =
    let behind = term-behind c.args.bytes.now c.in-Some.field-0-0.now c.in-Some.rest.now c.in-Some.ensures.cases.0 c.requires in
    record { some = behind.1; exact = c.in_ok-stack-in-Some.ensures }

pub returns-clause-same : goal.returns-clause-same
returns-clause-same c = sym (term-behind c.args.bytes.now c.in-Some.field-0-0.now c.in-Some.rest.now c.in-Some.ensures.cases.0 c.requires).0

pub returns-clause-few : goal.returns-clause-few
returns-clause-few c =
    let behind = term-behind c.args.bytes.now c.in-Some.field-0-0.now c.in-Some.rest.now c.in-Some.ensures.cases.0 c.requires in
    let term = behind.1 in
    omega (arith, depth-few term.0 c.in-Some.rest.now term.1, c.in_ok-stack-in-Some.ensures term.0 term.1, ap length behind.0)
