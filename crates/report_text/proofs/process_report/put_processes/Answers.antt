use Rattle.dump_io.specs.Laws.Puts.{HasPut-more, Puts-broken}
use Rattle.report_text.specs.Tables.{process_line}
use Rattle.report_text.proofs.process_report.put_processes.Goals as goal

pub loop-i-preserved : goal.loop-i-preserved
loop-i-preserved g c = HasPut-more process_line c.args.procs.now.processes c.loop-i.i _ c.at.ensures c.loop-i.invariant c.in_ok-put_process.ensures

pub returns-in_err-put_process : goal.returns-in_err-put_process
returns-in_err-put_process g c =
    Puts-broken process_line c.args.procs.now.processes c.loop-i.i _ c.at.ensures c.loop-i.invariant c.from_residual.ensures.0 c.in_err-put_process.ensures
