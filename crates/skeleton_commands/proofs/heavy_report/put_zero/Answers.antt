use Rattle.std.proofs.Common.{ap}
use Rattle.std.specs.List.{flat_map}
use Rattle.dump_io.specs.Laws.Puts.{Puts-as, Puts-stopped, Puts-then}
use Rattle.skeleton_commands.specs.Heavy.{kind_line}
use Rattle.skeleton_commands.proofs.heavy_report.put_zero.Goals as goal

pub returns-in_err-put_top : goal.returns-in_err-put_top
returns-in_err-put_top g c = Puts-stopped _ c.from_residual.ensures.0 c.in_err-put_top.ensures

pub returns-in_err-put_kinds : goal.returns-in_err-put_kinds
returns-in_err-put_kinds g c =
    let kinds = Puts-as (ap (flat_map kind_line) c.deref.ensures.value) c.in_err-put_kinds.ensures in
    Puts-then c.in_ok-put_top.ensures (Puts-stopped _ c.from_residual-in_err-put_kinds.ensures.0 kinds)

pub returns : goal.returns
returns g c =
    let kinds = Puts-as (ap (flat_map kind_line) c.deref.ensures.value) c.in_ok-put_kinds.ensures in
    Puts-then c.in_ok-put_top.ensures (Puts-then kinds c.put_shared.ensures)
