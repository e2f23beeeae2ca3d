use Rattle.std.proofs.Common.{◌||◌, nat_eq, get_or, take, refl, ap, ◌∙◌}
use Rattle.std.proofs.lemmas.Option.{slice_get-get_or}
use Rattle.cell_graphs.specs.Frontiers.{is_on}
use Rattle.cell_ways.proofs.Giving.{any-more, finds-none, finds-then, same-eq}
use Rattle.cell_ways.proofs.search.add_all.Goals as goal

pub loop-cell-init : goal.loop-cell-init
loop-cell-init c = finds-none c.args.search.now c.args.depth _ (λ n. refl)

pub loop-cell-preserved : goal.loop-cell-preserved
loop-cell-preserved c =
    let cells = c.args.cells.now in
    let i = c.loop-cell.cell-index in
    finds-then c.args.search.now c.loop-cell.search c.add.new.self c.args.depth _ _ _ c.loop-cell.invariant c.in_ok-add.ensures
    (λ n.
    any-more (nat_eq n) cells i (get_or cells i 0) (slice_get-get_or cells i 0 c.loop-cell-test.true)
    ∙ ap (λ b. is_on n (take i cells) || b) (same-eq n (get_or cells i 0)))
