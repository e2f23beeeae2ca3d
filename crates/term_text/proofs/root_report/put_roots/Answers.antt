use Rattle.std.proofs.Common.{codes, ap}
use Rattle.dump_io.specs.Laws.Puts.{Puts-then, Puts-as}
use Rattle.report_lines.specs.Lines.{total_line}
use Rattle.term_text.proofs.root_report.put_roots.Goals as goal

pub returns-clause-puts : goal.returns-clause-puts
returns-clause-puts g c = Puts-then c.in_ok-count.ensures.puts (Puts-as (ap (total_line (codes "roots")) c.in_ok-count.ensures.count) c.put_total_line.ensures)
