use Rattle.std.proofs.lemmas.Option.{slice_get-get_or}
use Rattle.dump_io.specs.Laws.Puts.{HasPut-more, Puts-broken}
use Rattle.glance_text.specs.Triage.{port_line}
use Rattle.glance_text.proofs.triage_rows.put_ports.Goals as goal

pub loop-group-preserved : goal.loop-group-preserved
loop-group-preserved g c =
    let rows = c.args.groups.now in
    let i = c.loop-group.group-index in
    HasPut-more (port_line c.args.ports.now.rows) rows i _ (slice_get-get_or rows i _ c.loop-group-test.true) c.loop-group.invariant c.in_ok-put_port.ensures

pub returns-in_err-put_port : goal.returns-in_err-put_port
returns-in_err-put_port g c =
    let rows = c.args.groups.now in
    let i = c.loop-group.group-index in
    Puts-broken (port_line c.args.ports.now.rows) rows i _ (slice_get-get_or rows i _ c.loop-group-test.true) c.loop-group.invariant c.from_residual.ensures.0 c.in_err-put_port.ensures
