use Rattle.dump_io.specs.Laws.Puts.{Puts-then}
use Rattle.term_text.proofs.binary_report.put_hex_line.Goals as goal

pub returns : goal.returns
returns g c = Puts-then c.in_ok-put_hex_bytes.ensures c.write_all.ensures.puts
