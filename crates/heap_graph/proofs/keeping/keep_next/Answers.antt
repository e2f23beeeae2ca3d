use Rattle.std.proofs.Common.{true, false}
use Rattle.std.proofs.lemmas.Result.{IfOk-weaker}
use Rattle.heap_graph.specs.Laws.Gains.{Gains-none}
use Rattle.heap_graph.specs.Laws.Keeping.{kept-next}
use Rattle.heap_graph.proofs.keeping.keep_next.Goals as goal

pub returns-then-not-firsts-i-clause-keeps : goal.returns-then-not-firsts-i-clause-keeps
returns-then-not-firsts-i-clause-keeps c = λ lines is refs so_far.
    let old = c.args.kept.now in
    kept-next c.args.held.now old old c.args.firsts.now c.args.i false c.requires.firsts c.requires.place c.if-not-firsts-i.true lines is (Gains-none old) so_far

pub returns-clause-keeps : goal.returns-clause-keeps
returns-clause-keeps c =
    IfOk-weaker c.keep_cell.result _ _
    (λ u keeps. λ lines is refs so_far.
    kept-next c.args.held.now c.args.kept.now c.keep_cell.new.kept c.args.firsts.now c.args.i true c.requires.firsts c.requires.place c.if-not-firsts-i.false lines is (keeps lines is refs) so_far)
    c.keep_cell.ensures.keeps
