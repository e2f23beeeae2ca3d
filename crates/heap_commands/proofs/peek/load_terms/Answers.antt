use Rattle.std.proofs.Common.{arith, map, subst, sym}
use Rattle.heap_parts.specs.Wholes.{cells_in, is_known, HasLines}
use Rattle.term_forms.specs.Seen.{element}
use Rattle.heap_commands.specs.Inner.Loads.{GivesPart}
use Rattle.heap_commands.proofs.PartLoads.{stopped, Gives-lacking, Gives-stopped, Gives-terms}
use Rattle.dump_questions.specs.Laws.Reading.{StopsFor-reading}
use Rattle.heap_commands.proofs.peek.load_terms.Goals as goal

pub returns-in_err-lines-clause-gives : goal.returns-in_err-lines-clause-gives
returns-in_err-lines-clause-gives g c =
    let at = c.args.at.now in
    let before = g.D.Dumps.state c.args.dumps.now in
    let after = g.D.Dumps.state c.load.new.dumps in
    let terms = map element c.args.terms.now in
    let table = c.in_err-lines.ensures in
    stopped (GivesPart c.args.pid.now c.args.addr terms c.args.nodes at.limits.now at.index.now before after)
    c.from_residual.result _ c.from_residual.ensures.1
    (Gives-stopped c.args.pid.now c.args.addr terms c.args.nodes at.limits.now at.index.now before after _ _ table.reads (omega arith)
    (StopsFor-reading before after (λ why. ⊥) _ table.fault))

pub returns-in_err-find_line-clause-gives : goal.returns-in_err-find_line-clause-gives
returns-in_err-find_line-clause-gives g c =
    let at = c.args.at.now in
    let before = g.D.Dumps.state c.args.dumps.now in
    let after = g.D.Dumps.state c.load.new.dumps in
    let terms = map element c.args.terms.now in
    let table = c.in_ok-lines.ensures in
    stopped (GivesPart c.args.pid.now c.args.addr terms c.args.nodes at.limits.now at.index.now before after)
    c.from_residual-in_err-find_line.result _ c.from_residual-in_err-find_line.ensures.1
    (Gives-lacking c.args.pid.now c.args.addr terms c.args.nodes at.limits.now at.index.now before after (is_known c.in_ok-lines.lines)
    (λ bytes all. table.known bytes all.opened) (Unit {0}) _ table.reads c.in_err-find_line.ensures)

pub returns-clause-gives : goal.returns-clause-gives
returns-clause-gives g c =
    let at = c.args.at.now in
    let pid = c.args.pid.now in
    let before = g.D.Dumps.state c.args.dumps.now in
    let found = g.D.Dumps.state c.load.new.dumps in
    let after = g.D.Dumps.state c.load_over.new.dumps in
    let table = c.in_ok-lines.ensures in
    let lines = c.in_ok-lines.lines in
    let read = c.load_over.ensures in
    Gives-terms pid c.args.addr (map element c.args.terms.now) c.args.nodes at.limits.now at.index.now before after (is_known lines)
    (λ bytes all. table.known bytes all.opened) found lines table.enc
    (λ bytes all. subst (λ now. HasLines lines now (cells_in pid bytes)) (sym table.reads.same_now) (table.lines bytes all.opened))
    (λ bytes all. table.size (cells_in pid bytes) (table.lines bytes all.opened)) table.reads c.in_ok-find_line.ensures read.reads c.load_over.result read.stops read.answered
