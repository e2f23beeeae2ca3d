use Rattle.std.proofs.Common.{codes, ap}
use Rattle.dump_io.specs.Laws.Puts.{Puts-then, Puts-as}
use Rattle.report_lines.specs.Lines.{total_line}
use Rattle.report_text.proofs.section_field_report.put_section_fields.Goals as goal

pub returns : goal.returns
returns g c = Puts-then c.in_ok-put_all.ensures (Puts-as (ap (total_line (codes "sections")) c.len.ensures) c.put_total_line.ensures)
