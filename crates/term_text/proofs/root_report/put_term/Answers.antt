use Rattle.dump_io.specs.Laws.Puts.{Puts-then}
use Rattle.term_text.proofs.root_report.put_term.Goals as goal

pub returns-clause-puts : goal.returns-clause-puts
returns-clause-puts g c = Puts-then c.in_ok-put_answer.ensures.puts c.write_all.ensures.puts
