use Rattle.dump_io.specs.Laws.Puts.{Puts-then, Puts-stopped}
use Rattle.term_text.proofs.cell_report.put_cells.Goals as goal

pub returns-in_err-put_kinds : goal.returns-in_err-put_kinds
returns-in_err-put_kinds g c =
    Puts-then c.in_ok-put_own.ensures (Puts-stopped _ c.from_residual-in_err-put_kinds.ensures.0 c.in_err-put_kinds.ensures)

pub returns : goal.returns
returns g c = Puts-then c.in_ok-put_own.ensures (Puts-then c.in_ok-put_kinds.ensures c.put_total.ensures)
