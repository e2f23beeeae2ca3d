use Rattle.dump_io.specs.Laws.Puts.{HasPut-more, Puts-broken}
use Rattle.report_text.specs.Links.{process_links}
use Rattle.report_text.proofs.link_report.put_processes.Goals as goal

pub loop-p-preserved : goal.loop-p-preserved
loop-p-preserved g c = HasPut-more process_links c.args.procs.now.processes c.loop-p.p _ c.at.ensures c.loop-p.invariant c.in_ok-put_process.ensures

pub returns-in_err-put_process : goal.returns-in_err-put_process
returns-in_err-put_process g c =
    Puts-broken process_links c.args.procs.now.processes c.loop-p.p _ c.at.ensures c.loop-p.invariant c.from_residual.ensures.0 c.in_err-put_process.ensures
