use Rattle.std.proofs.Common.{ap}
use Rattle.std.specs.List.{flat_map}
use Rattle.dump_io.specs.Laws.Puts.{Puts-as, Puts-then}
use Rattle.glance_text.specs.Triage.{port_line, table_bytes_line}
use Rattle.glance_text.proofs.triage_rows.put_table_lines.Goals as goal

pub returns : goal.returns
returns g c =
    Puts-then (Puts-as (ap (flat_map (table_bytes_line c.args.procs.now.processes c.args.tables.now.rows)) c.tables.ensures) c.in_ok-put_tables.ensures)
    (Puts-as (ap (flat_map (port_line c.args.ports.now.rows)) c.ports.ensures) c.put_ports.ensures)
