use Rattle.dump_io.specs.Laws.Puts.{Puts-then}
use Rattle.report_text.proofs.value_report.put_values.Goals as goal

pub returns : goal.returns
returns g c = Puts-then c.in_ok-put_all.ensures c.put_total.ensures
