use Rattle.dump_io.specs.Laws.Puts.{Puts-then}
use Rattle.term_text.proofs.root_report.put_shown_roots.Goals as goal

pub returns-clause-puts : goal.returns-clause-puts
returns-clause-puts g c = Puts-then c.in_ok-put_shown.ensures.puts (rw c.count.ensures at c.put_total_line.ensures)
