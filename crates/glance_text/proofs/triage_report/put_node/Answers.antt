use Rattle.dump_io.specs.Laws.Puts.{Puts-then, Puts-stopped}
use Rattle.glance_text.proofs.triage_report.put_node.Goals as goal

pub returns-in_err-put_heading : goal.returns-in_err-put_heading
returns-in_err-put_heading g c = Puts-stopped _ c.from_residual.ensures.0 c.in_err-put_heading.ensures

pub returns-in_err-put_dump : goal.returns-in_err-put_dump
returns-in_err-put_dump g c = Puts-then c.in_ok-put_heading.ensures (Puts-stopped _ c.from_residual-in_err-put_dump.ensures.0 c.in_err-put_dump.ensures)

pub returns-in_err-put_memory : goal.returns-in_err-put_memory
returns-in_err-put_memory g c =
    Puts-then c.in_ok-put_heading.ensures (Puts-then c.in_ok-put_dump.ensures (Puts-stopped _ c.from_residual-in_err-put_memory.ensures.0 c.in_err-put_memory.ensures))

pub returns : goal.returns
returns g c = Puts-then c.in_ok-put_heading.ensures (Puts-then c.in_ok-put_dump.ensures (Puts-then c.in_ok-put_memory.ensures c.put_processes_line.ensures))
