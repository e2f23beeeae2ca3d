use Rattle.std.proofs.Common.{◌≡◌, ◌<◌, ◌≤◌, length, sym, subst, ap, ◌∙◌, arith}
use Rattle.std.specs.Prelude.{All, Contains, filter}
use Rattle.std.proofs.lemmas.List.{take_all}
use Rattle.std.proofs.lemmas.List.Elements.{All-filter}
use Rattle.heap_skeleton.specs.Skeletons.{is_tuple}
use Rattle.heap_ways.proofs.KeptFacts.{filter-has}
use Rattle.heap_ways.proofs.fronts.tuples_of.Goals as goal

collected : (c : goal.After-of) → c.loop-cell.tuples.items ≡ filter (is_tuple c.args.skeleton.now) c.args.cells.now
collected c =
    let cells = c.args.cells.now in
    let all : length cells ≤ c.loop-cell.cell-index = omega arith in
    c.loop-cell.invariant ∙ ap (filter (is_tuple c.args.skeleton.now)) (take_all c.loop-cell.cell-index cells all)

pub returns-clause-has : goal.returns-clause-has
returns-clause-has c = λ n among tuple.
    c.of.ensures.all n (subst (λ l. Contains l n) (sym (collected c)) (filter-has (is_tuple c.args.skeleton.now) c.args.cells.now n among tuple))

pub returns-clause-within : goal.returns-clause-within
returns-clause-within c =
    let size = length c.args.skeleton.now.leads in
    c.of.ensures.within size (subst (All (λ n. n < size)) (sym (collected c)) (All-filter (is_tuple c.args.skeleton.now) (λ n. n < size) c.args.cells.now c.requires))
