use Rattle.dump_io.specs.Laws.Puts.{Puts-then, Puts-stopped}
use Rattle.term_text.proofs.ext_report.put_ext.Goals as goal

pub returns-in_err-put-clause-puts : goal.returns-in_err-put-clause-puts
returns-in_err-put-clause-puts g c = Puts-stopped _ c.from_residual.ensures.0 c.in_err-put.ensures.writes

pub returns-clause-puts : goal.returns-clause-puts
returns-clause-puts g c = Puts-then c.in_ok-put.ensures.writes c.write_all.ensures.puts
