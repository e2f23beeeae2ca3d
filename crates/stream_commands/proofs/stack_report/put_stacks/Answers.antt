use Rattle.std.proofs.Common.{take, ◌∙◌, ap}
use Rattle.std.specs.List.{flat_map}
use Rattle.dump_io.specs.Laws.Puts.{Puts-as, Puts-stopped, Puts-then}
use Rattle.stream_commands.specs.Stacks.{group_lines}
use Rattle.stream_commands.proofs.stack_report.put_stacks.Goals as goal

pub returns-in_err-put_groups : goal.returns-in_err-put_groups
returns-in_err-put_groups g c =
    let lines = group_lines c.args.procs.now c.args.stacks.now.places in
    Puts-stopped _ c.from_residual.ensures.0 (Puts-as (ap (flat_map lines) (c.first_groups.ensures ∙ ap (take c.args.most) c.groups.ensures)) c.in_err-put_groups.ensures)

pub returns : goal.returns
returns g c =
    let lines = group_lines c.args.procs.now c.args.stacks.now.places in
    Puts-then (Puts-as (ap (flat_map lines) (c.first_groups.ensures ∙ ap (take c.args.most) c.groups.ensures)) c.in_ok-put_groups.ensures) c.put_total.ensures
