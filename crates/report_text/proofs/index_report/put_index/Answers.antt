use Rattle.dump_io.specs.Laws.Puts.{Puts-then}
use Rattle.report_text.proofs.index_report.put_index.Goals as goal

pub returns : goal.returns
returns g c = Puts-then c.in_ok-put_sections.ensures c.put_state.ensures
