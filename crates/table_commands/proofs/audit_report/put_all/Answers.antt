use Rattle.std.proofs.lemmas.Option.{slice_get-get_or}
use Rattle.dump_io.specs.Laws.Puts.{HasPut-more, Puts-broken}
use Rattle.table_commands.specs.Findings.{finding_line}
use Rattle.table_commands.proofs.audit_report.put_all.Goals as goal

pub loop-finding-preserved : goal.loop-finding-preserved
loop-finding-preserved g c =
    let findings = c.args.findings.now in
    let i = c.loop-finding.finding-index in
    HasPut-more (finding_line c.args.procs.now.processes) findings i _ (slice_get-get_or findings i _ c.loop-finding-test.true)
    c.loop-finding.invariant c.in_ok-put_finding.ensures

pub returns-in_err-put_finding : goal.returns-in_err-put_finding
returns-in_err-put_finding g c =
    let findings = c.args.findings.now in
    let i = c.loop-finding.finding-index in
    Puts-broken (finding_line c.args.procs.now.processes) findings i _ (slice_get-get_or findings i _ c.loop-finding-test.true)
    c.loop-finding.invariant c.from_residual.ensures.0 c.in_err-put_finding.ensures
