use Rattle.std.proofs.Common.{◌≡◌, ◌+◌, [], ◌∷◌, ◌++◌, map, take, get_or, None, sym, subst}
use Rattle.std.proofs.lemmas.List.{map_more}
use Rattle.section_rows.specs.Shown.{shown_cell}
use Rattle.section_rows.specs.Inner.Places.{Gained}
use Rattle.section_rows.proofs.Cells.{Gained-none, Gained-append}
use Rattle.section_rows.proofs.store.push_cells.Goals as goal

pub loop-cell-init : goal.loop-cell-init
loop-cell-init c = Gained-none c.args.base c.args.places.now.items c.args.pool.now.items

pub loop-cell-preserved : goal.loop-cell-preserved
loop-cell-preserved c =
    let cells : map shown_cell (take (c.loop-cell.cell-index + 1) c.args.cells.now)
    ≡ map shown_cell (take c.loop-cell.cell-index c.args.cells.now) ++ shown_cell (get_or c.args.cells.now c.loop-cell.cell-index None) ∷ [] =
    map_more shown_cell c.args.cells.now c.loop-cell.cell-index None c.loop-cell-test.true in
    subst (Gained c.args.base c.args.places.now.items c.push_cell.new.places.items c.args.pool.now.items c.push_cell.new.pool.items) (sym cells)
    (Gained-append c.args.base _ _ _ _ _ _ _ _ c.loop-cell.invariant c.in_ok-push_cell.ensures)
