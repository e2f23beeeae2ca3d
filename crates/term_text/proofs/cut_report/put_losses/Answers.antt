use Rattle.std.proofs.Common.{ap, codes, true}
use Rattle.dump_io.specs.Laws.Puts.{Puts-as, Puts-stopped, Puts-then}
use Rattle.term_text.specs.Cuts.{loss_line}
use Rattle.term_text.proofs.cut_report.put_losses.Goals as goal

pub returns-in_err-put_loss : goal.returns-in_err-put_loss
returns-in_err-put_loss g c =
    let index = c.args.index.now in
    Puts-then c.in_ok-put_root_losses.ensures
    (Puts-stopped _ c.from_residual-in_err-put_loss.ensures.0
    (Puts-as (ap (loss_line index (codes "proc_heap") true) c.first-heap.ensures.section) c.in_err-put_loss.ensures))

pub returns : goal.returns
returns g c =
    let index = c.args.index.now in
    Puts-then c.in_ok-put_root_losses.ensures
    (Puts-then (Puts-as (ap (loss_line index (codes "proc_heap") true) c.first-heap.ensures.section) c.in_ok-put_loss.ensures)
    (Puts-as (ap (loss_line index (codes "literals") true) c.first_tag.ensures.section) c.put_loss-2.ensures))
