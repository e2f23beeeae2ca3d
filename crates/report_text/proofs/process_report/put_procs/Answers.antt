use Rattle.dump_io.specs.Laws.Puts.{Puts-then}
use Rattle.report_text.proofs.process_report.put_procs.Goals as goal

pub returns : goal.returns
returns g c = Puts-then c.in_ok-put_processes.ensures c.put_processes_line.ensures
