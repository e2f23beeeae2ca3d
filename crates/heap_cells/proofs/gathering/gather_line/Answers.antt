use Rattle.std.proofs.Common.{refl, sym, arith}
use Rattle.field_lines.specs.Shown.{shown_line}
use Rattle.heap_cells.proofs.GatheringFacts.{Gathers-line, Gathers-no-line, spelled-few}
use Rattle.heap_cells.proofs.gathering.gather_line.Goals as goal

pub returns-in_default-clause-gathers : goal.returns-in_default-clause-gathers
returns-in_default-clause-gathers c = Gathers-no-line c.args.texts.now c.args.g.now (shown_line c.args.line.now) (sym c.in_default.ensures.exact)

pub returns-clause-gathers : goal.returns-clause-gathers
returns-clause-gathers c =
    Gathers-line c.args.texts.now c.args.g.now c.add_weight.new.g c.gather_cell.new.held (shown_line c.args.line.now) c.args.base _ _ c.in-Some.address c.in_ok-count.count c.in-Some.spelled.now
    c.requires.line c.in-Some.ensures.found c.in-Some.ensures.exact refl refl c.in_ok-count.ensures.gains c.in_ok-count.ensures.count c.add_weight.ensures.weight c.add_weight.ensures.held

pub add_weight-requires-clause-room : goal.add_weight-requires-clause-room
add_weight-requires-clause-room c =
    let few = spelled-few c.args.texts.now.enc c.in-Some.spelled.now (λ f. (c.form_is_read.ensures.found c.in-Some.spelled.now f).0) in
    omega (arith, few, c.in_ok-count.ensures.count, c.in-Some.ensures.shorter, c.requires.room)

pub returns-clause-weight : goal.returns-clause-weight
returns-clause-weight c =
    let few = spelled-few c.args.texts.now.enc c.in-Some.spelled.now (λ f. (c.form_is_read.ensures.found c.in-Some.spelled.now f).0) in
    omega (arith, few, c.in_ok-count.ensures.count, c.in-Some.ensures.shorter, c.add_weight.ensures.weight)
