use Rattle.std.proofs.Common.{◌≡◌, ◌<◌, ◌≤◌, All, length, ◌∙◌, sym, ap, subst, arith}
use Rattle.std.specs.Prelude.{Contains}
use Rattle.std.proofs.lemmas.List.{take_all}
use Rattle.tuple_fronts.specs.Tuples.{needed}
use Rattle.tuple_fronts.specs.Laws.Needed.{needed-within}
use Rattle.tuple_fronts.proofs.needed.needed_cells.Goals as goal

collected : (c : goal.After-of) → c.loop-cell.cells.items ≡ needed c.args.skeleton.now c.args.subjects.now
collected c =
    let subjects = c.args.subjects.now in
    let all : length subjects ≤ c.loop-cell.cell-index = omega (arith, c.loop-cell-test.false, ap length c.numbers-cell-items.ensures.value) in
    c.loop-cell.invariant ∙ ap (needed c.args.skeleton.now) (take_all c.loop-cell.cell-index subjects all)

pub returns-clause-all : goal.returns-clause-all
returns-clause-all c = λ n has. c.of.ensures.all n (subst (λ l. Contains l n) (sym (collected c)) has)

pub returns-clause-within : goal.returns-clause-within
returns-clause-within c =
    let size = length c.args.skeleton.now.leads in
    c.of.ensures.within size (subst (All (λ n. n < size)) (sym (collected c)) (needed-within c.args.skeleton.now c.args.subjects.now c.requires.within c.requires.subjects))
