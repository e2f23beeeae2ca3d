use Rattle.std.proofs.Common.{take, ap, arith, ◌≡◌, ℕ, ◌<◌, ◌≤◌, List, length, None, Some, ◌∙◌}
use Rattle.std.specs.Prelude.{slice_get}
use Rattle.std.proofs.lemmas.List.{get_or-take, length-take-le}
use Rattle.std.proofs.lemmas.Option.{slice_get-get_or}
use Rattle.dump_io.specs.Laws.Puts.{Puts-as, Puts-broken}
use Rattle.heap_cells.specs.Cells.{Cell}
use Rattle.term_text.specs.Cells.{cell_line}
use Rattle.term_text.specs.Inner.Cells.{cell_at}
use Rattle.term_text.proofs.cell_report.put_own.Goals as goal

own-there : (cells : List Cell) (own n : ℕ) → own ≤ length cells → n < own → slice_get (take own cells) n ≡ Some (cell_at cells n)
own-there cells own n within below =
    slice_get-get_or (take own cells) n (record { address = 0; form = None }) (omega (arith, within, below, length-take-le own cells within))
    ∙ ap Some (get_or-take own cells n (record { address = 0; form = None }) below)

pub returns-in_err-put_cell : goal.returns-in_err-put_cell
returns-in_err-put_cell g c =
    let heap = c.args.heap.now in
    Puts-broken cell_line (take heap.own heap.cells) c.loop-n.n (cell_at heap.cells c.loop-n.n)
    (own-there heap.cells heap.own c.loop-n.n (omega (arith, c.own-n-end.ensures.value, c.own-n-end.ensures.within)) (omega (arith, c.own-n-end.ensures.value, c.loop-n-test.true)))
    c.loop-n.invariant c.from_residual.ensures.0 (Puts-as (ap (λ n. cell_line (cell_at heap.cells n)) c.cell.ensures) c.in_err-put_cell.ensures)
