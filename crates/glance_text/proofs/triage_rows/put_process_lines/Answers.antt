use Rattle.std.proofs.Common.{codes, ap}
use Rattle.std.specs.List.{flat_map}
use Rattle.dump_io.specs.Laws.Puts.{Puts-as, Puts-then, Puts-stopped}
use Rattle.glance_text.specs.Triage.{process_number_line, standing}
use Rattle.glance_text.proofs.triage_rows.put_process_lines.Goals as goal

pub returns-in_err-put_process_numbers-2 : goal.returns-in_err-put_process_numbers-2
returns-in_err-put_process_numbers-2 g c =
    let shown = standing c.args.index.now c.args.procs.now.processes c.args.stands.now in
    Puts-then (Puts-as (ap (flat_map (process_number_line (codes "queue") shown)) c.queues.ensures) c.in_ok-put_process_numbers.ensures)
    (Puts-stopped _ c.from_residual-in_err-put_process_numbers-2.ensures.0
    (Puts-as (ap (flat_map (process_number_line (codes "process") shown)) c.memory.ensures) c.in_err-put_process_numbers-2.ensures))

pub returns : goal.returns
returns g c =
    let shown = standing c.args.index.now c.args.procs.now.processes c.args.stands.now in
    Puts-then (Puts-as (ap (flat_map (process_number_line (codes "queue") shown)) c.queues.ensures) c.in_ok-put_process_numbers.ensures)
    (Puts-then (Puts-as (ap (flat_map (process_number_line (codes "process") shown)) c.memory.ensures) c.in_ok-put_process_numbers-2.ensures)
    (Puts-as (ap (flat_map (process_number_line (codes "binary") shown)) c.binaries.ensures) c.put_process_numbers-3.ensures))
