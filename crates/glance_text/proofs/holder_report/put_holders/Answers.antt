use Rattle.dump_io.specs.Laws.Puts.{Puts-then}
use Rattle.glance_text.proofs.holder_report.put_holders.Goals as goal

pub returns : goal.returns
returns g c = Puts-then c.in_ok-put_each.ensures c.put_total_line.ensures
