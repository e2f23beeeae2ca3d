use Rattle.std.proofs.Common.{ap}
use Rattle.std.specs.List.{flat_map}
use Rattle.dump_io.specs.Laws.Puts.{Puts-as, Puts-then}
use Rattle.glance_text.specs.Triage.{group_line, standing, state_count_line}
use Rattle.glance_text.proofs.triage_rows.put_group_lines.Goals as goal

pub returns : goal.returns
returns g c =
    let index = c.args.index.now in
    let processes = c.args.procs.now.processes in
    Puts-then (Puts-as (ap (flat_map (state_count_line index processes)) c.states.ensures) c.in_ok-put_states.ensures)
    (Puts-as (ap (flat_map (group_line (standing index processes c.args.stands.now))) c.groups.ensures) c.put_groups.ensures)
