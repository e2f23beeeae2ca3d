use Rattle.dump_io.specs.Laws.Puts.{Puts-then, Puts-stopped}
use Rattle.term_text.proofs.binary_report.put_binary.Goals as goal

pub returns-in_err-put_heading : goal.returns-in_err-put_heading
returns-in_err-put_heading g c = Puts-stopped _ c.from_residual.ensures.0 c.in_err-put_heading.ensures

pub returns : goal.returns
returns g c = Puts-then c.in_ok-put_heading.ensures c.put_hex_lines.ensures
