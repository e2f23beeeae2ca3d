use Rattle.std.proofs.Common.{ap}
use Rattle.std.specs.List.{flat_map}
use Rattle.dump_io.specs.Laws.Puts.{Puts-as, Puts-then, Puts-stopped}
use Rattle.glance_text.specs.Holders.{held_line, stored_line}
use Rattle.glance_text.proofs.holder_report.put_binaries.Goals as goal

pub returns-in_err-put_all_held : goal.returns-in_err-put_all_held
returns-in_err-put_all_held g c =
    let line = held_line c.args.index.now c.args.procs.now.processes in
    Puts-stopped _ c.from_residual.ensures.0 (Puts-as (ap (flat_map line) c.deref.ensures.value) c.in_err-put_all_held.ensures)

pub returns-in_err-put_all_stored : goal.returns-in_err-put_all_stored
returns-in_err-put_all_stored g c =
    let line = held_line c.args.index.now c.args.procs.now.processes in
    Puts-then (Puts-as (ap (flat_map line) c.deref.ensures.value) c.in_ok-put_all_held.ensures)
    (Puts-stopped _ c.from_residual-in_err-put_all_stored.ensures.0
    (Puts-as (ap (flat_map stored_line) c.deref-2.ensures.value) c.in_err-put_all_stored.ensures))

pub returns : goal.returns
returns g c =
    let line = held_line c.args.index.now c.args.procs.now.processes in
    Puts-then (Puts-as (ap (flat_map line) c.deref.ensures.value) c.in_ok-put_all_held.ensures)
    (Puts-then (Puts-as (ap (flat_map stored_line) c.deref-2.ensures.value) c.in_ok-put_all_stored.ensures) c.put_totals.ensures)
