use Rattle.std.proofs.Common.{codes, ap}
use Rattle.dump_io.specs.Laws.Puts.{Puts-then, Puts-as}
use Rattle.report_lines.specs.Lines.{total_line}
use Rattle.report_text.proofs.link_report.put_links.Goals as goal

pub returns : goal.returns
returns g c = Puts-then c.in_ok-put_processes.ensures (Puts-as (ap (total_line (codes "entries")) c.entry_total.ensures) c.put_total_line.ensures)
